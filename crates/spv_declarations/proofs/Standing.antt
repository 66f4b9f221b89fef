-- Where rules can be broken: before the functions.
use Rattle.std.proofs.Common.{◌≡◌, ◌∙◌, ◌<◌, inl, inr, ℕ, Bool, true, false, refl, sym, subst, List, ◌∷◌, Option, Some}
use Rattle.std.proofs.Common.{None, nat_eq, if◌then◌else◌}
use Rattle.std.specs.Prelude.{option_map}
use Rattle.spv_table.specs.Table.{Table}
use Rattle.spv_module.specs.declared.opcode.TheConstants as opcode
use Rattle.spv_module.specs.Operand.{Plain, Result, Id, Word, Value, PlainInst}
use Rattle.spv_type_forms.specs.declared.form.Form.{Form}
use Rattle.spv_type_kinds.specs.declared.kinds.Object.{Object}
use Rattle.spv_type_forms.specs.declared.form.Form.TheVariants as form
use Rattle.spv_type_forms.specs.declared.form.Scalar.TheVariants as scalar
use Rattle.spv_type_forms.specs.Form.{form_in, float_in, vector_in, array_in, pointer_in, sampled_image_in, object_of}
use Rattle.spv_declarations.specs.Given.{first_in}
use Rattle.spv_declarations.specs.Entry.{IsRepeated, TakesId, name_in}
use Rattle.spv_declarations.specs.Declarations.{IsForwardElsewhere, IsIncapable, IsOfNoMember}
use Rattle.spv_declarations.specs.Decorated.{HasBy, HasOnMember, IsHalfBuiltIn, IsInitialized, IsLinkedEntry}
use Rattle.spv_declarations.specs.Decorated.{IsMisplaced, IsSecond}
use Rattle.spv_declarations.specs.inner.Early.{AreEarly}
use Rattle.spv_declarations.proofs.Saying.{gated, member_early, by_opcode, early_by}
use Rattle.spv_declarations.proofs.Stated.{has_by_early, has_member_early, has_place, member_place}

pub o3_early : (is : List PlainInst) (count : ℕ) → AreEarly is count → (n : ℕ) → IsRepeated is n → n < count
o3_early is count e n r = e.each n r.inst r.there
    (early_by r.inst opcode.ENTRY_POINT
    (gated (nat_eq r.inst.opcode opcode.ENTRY_POINT) (name_in r.inst.operands) (r.model, r.name) r.named) refl)

pub o5_early : (is : List PlainInst) (count : ℕ) → AreEarly is count → (n : ℕ) → TakesId is n → n < count
o5_early is count e n r = e.each n r.0 r.1 (by_opcode r.0 opcode.EXECUTION_MODE r.2.0 refl)

pub o6_early : (is : List PlainInst) (count : ℕ) → AreEarly is count → (n : ℕ) → IsOfNoMember is n → n < count
o6_early is count e n r = e.each n r.0 r.1 (member_early r.0 r.2.0 r.2.1 r.2.2)

has_place_early : (is : List PlainInst) (count d x : ℕ) → AreEarly is count → (n : ℕ) → HasBy is x d n → n < count
has_place_early is count d x e n h =
    let t = has_place is d x n h in e.each n t.0 t.1 (has_by_early is d x t.0 t.2)

member_place_early : (is : List PlainInst) (count t k d : ℕ) → AreEarly is count → (n : ℕ) → HasOnMember is t k d n
    → n < count
member_place_early is count t k d e n h =
    let s = member_place is t k d n h in e.each n s.0 s.1 (has_member_early is t k d s.0 s.2)

pub o7_early : (is : List PlainInst) (count : ℕ) → AreEarly is count → (n : ℕ) → IsMisplaced is n → n < count
o7_early is count e n (IsMisplaced.with_id i at o h) = e.each n i at (by_opcode i opcode.DECORATE o refl)
o7_early is count e n (IsMisplaced.on_id x d h s) = has_place_early is count d x e n h
o7_early is count e n (IsMisplaced.on_member t k d h s) = member_place_early is count t k d e n h

pub o8_early : (is : List PlainInst) (count : ℕ) → AreEarly is count → (n : ℕ) → IsSecond is n → n < count
o8_early is count e n s = elim s.greater.2 [
  | inl q ↦ subst (λ (m : ℕ). m < count) (sym q) (has_place_early is count 19 s.id e s.restricted s.one.has)
  | inr q ↦ subst (λ (m : ℕ). m < count) (sym q) (has_place_early is count 20 s.id e s.aliased s.other.has)
]

pub o9_early : (is : List PlainInst) (count : ℕ) → AreEarly is count → (n : ℕ) → IsLinkedEntry is n → n < count
o9_early is count e n r = has_place_early is count 41 r.0 e n r.2

pub o10_early : (G : Table) (is : List PlainInst) (count : ℕ) → AreEarly is count → (n : ℕ) → IsInitialized G is n
    → n < count
o10_early G is count e n r = e.globals n r.section

pub o11_early : (is : List PlainInst) (count : ℕ) → AreEarly is count → (n : ℕ) → IsHalfBuiltIn is n → n < count
o11_early is count e n (IsHalfBuiltIn.in_part i t k j ms at o p b m c) =
    e.each n i at (by_opcode i opcode.TYPE_STRUCT o refl)
o11_early is count e n (IsHalfBuiltIn.within i t u ms at o p h b) =
    e.each n i at (by_opcode i opcode.TYPE_STRUCT o refl)

pub o12_early : (is : List PlainInst) (count : ℕ) → AreEarly is count → (n : ℕ) → IsForwardElsewhere is n → n < count
o12_early is count e n r = e.each n r.0 r.1 (early_by r.0 opcode.TYPE_FORWARD_POINTER
    (gated (nat_eq r.0.opcode opcode.TYPE_FORWARD_POINTER) (first_in r.0.operands) r.2.0 r.2.2) refl)

-- what declares an int is an OpTypeInt
abbrev NotInt : Option Form → Type 0
NotInt o = o ≡ Some (form.Scalar (scalar.Int 8)) → ⊥

either : (b : Bool) (o p : Option Form) → (b ≡ true → NotInt o) → NotInt p → NotInt (if b then o else p)
either true o p f g = f refl
either false o p f g = g

float_no : (os : List Plain) → NotInt (float_in os)
float_no (Result t ∷ Word w ∷ os) e = cc
float_no _ e = cc

vector_no : (os : List Plain) → NotInt (vector_in os)
vector_no (Result t ∷ Id c ∷ Word w ∷ os) e = cc
vector_no _ e = cc

array_no : (os : List Plain) → NotInt (array_in os)
array_no (Result t ∷ Id c ∷ Id l ∷ os) e = cc
array_no _ e = cc

pointer_no : (os : List Plain) → NotInt (pointer_in os)
pointer_no (Result t ∷ Value k c ∷ Id p ∷ os) e = cc
pointer_no _ e = cc

image_no : (os : List Plain) → NotInt (sampled_image_in os)
image_no (Result t ∷ Id c ∷ os) e = cc
image_no _ e = cc

object_no : (o : Option Object) → NotInt (option_map (λ x. form.Object x) o)
object_no None e = cc
object_no (Some x) e = cc

other_no : (i : PlainInst) → nat_eq i.opcode opcode.TYPE_INT ≡ false → NotInt (form_in i)
other_no i f =
    either (nat_eq i.opcode opcode.TYPE_VOID) _ _ (λ t e. cc)
    (either (nat_eq i.opcode opcode.TYPE_BOOL) _ _ (λ t e. cc)
    (either (nat_eq i.opcode opcode.TYPE_INT) _ _ (λ t. let no : false ≡ true = sym f ∙ t in absurd (cc))
    (either (nat_eq i.opcode opcode.TYPE_FLOAT) _ _ (λ t. float_no i.operands)
    (either (nat_eq i.opcode opcode.TYPE_VECTOR) _ _ (λ t. vector_no i.operands)
    (either (nat_eq i.opcode opcode.TYPE_ARRAY) _ _ (λ t. array_no i.operands)
    (either (nat_eq i.opcode opcode.TYPE_STRUCT) _ _ (λ t e. cc)
    (either (nat_eq i.opcode opcode.TYPE_OPAQUE) _ _ (λ t e. cc)
    (either (nat_eq i.opcode opcode.TYPE_POINTER) _ _ (λ t. pointer_no i.operands)
    (either (nat_eq i.opcode opcode.TYPE_FUNCTION) _ _ (λ t e. cc)
    (either (nat_eq i.opcode opcode.TYPE_SAMPLED_IMAGE) _ _ (λ t. image_no i.operands)
    (object_no (object_of i.opcode))))))))))))

declares_int : (i : PlainInst) (b : Bool) → nat_eq i.opcode opcode.TYPE_INT ≡ b
    → form_in i ≡ Some (form.Scalar (scalar.Int 8)) → b ≡ true
declares_int i true e h = refl
declares_int i false e h = absurd (other_no i e h)

pub o13_early : (G : Table) (is : List PlainInst) (count : ℕ) → AreEarly is count → (n : ℕ) → IsIncapable G is n
    → n < count
o13_early G is count e n (i, at, inl h) = e.each n i at
    (early_by i opcode.TYPE_INT (declares_int i (nat_eq i.opcode opcode.TYPE_INT) refl h.0) refl)
o13_early G is count e n (i, at, inr h) = e.each n i at (by_opcode i opcode.MEMORY_MODEL h.0 refl)
