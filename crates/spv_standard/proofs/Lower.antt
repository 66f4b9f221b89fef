-- The structs that are members of a struct stand before it, where the stages before break no rule.
use Rattle.std.proofs.Common.{◌≡◌, ◌<◌, ◌++◌, ◌∙◌, ℕ, zero, suc, List, [], ◌∷◌, Some, None, inr}
use Rattle.std.proofs.Common.{true, length, refl, sym, ap, subst, arith}
use Rattle.std.specs.Prelude.{slice_get}
use Rattle.std.proofs.lemmas.Option.{same_Some, slice_get-get_or, slice_get_within}
use Rattle.std.proofs.Common.{get_or}
use Rattle.spv_table.specs.Table.{Table}
use Rattle.spv_module.specs.declared.opcode.TheConstants as opcode
use Rattle.spv_module.specs.Operand.{Plain, PlainInst, Id}
use Rattle.spv_layout.specs.declared.class.Class.TheVariants.{Declaration}
use Rattle.spv_layout.specs.declared.form.Form.{Form}
use Rattle.spv_layout.specs.declared.form.Form.TheVariants as form
use Rattle.spv_layout.specs.declared.form.Role.{Role}
use Rattle.spv_layout.specs.declared.form.Role.TheVariants as role
use Rattle.spv_layout.specs.declared.place.Place.{Place}
use Rattle.spv_layout.specs.Layout.{classes}
use Rattle.spv_layout.specs.Place.{IsOfSection, section_of}
use Rattle.spv_layout.specs.Plan.{IsPlan}
use Rattle.spv_layout.specs.Row.{PlainRow, repeated}
use Rattle.spv_layout.specs.Rows.{row_of, class_of, rows}
use Rattle.spv_layout.specs.Shape.{AreOf, Ends, FitsShape, HasForms, IsUse}
use Rattle.spv_ids.specs.Definition.{IsDefinedAt, IsUsedAt}
use Rattle.spv_ids.specs.Order.{Announces, IsInOrder}
use Rattle.spv_ids.specs.Sound.{IsSoundUse}
use Rattle.spv_type_forms.specs.Form.{form_in}
use Rattle.spv_type_forms.specs.Types.{class_in}
use Rattle.spv_declarations.proofs.Early.{class_at, never_behind}
use Rattle.spv_declarations.specs.inner.Early.{is_early}
use Rattle.spv_limits.specs.Depth.{AreLower}

-- an id that a pointer type defines
pub record IsPointerType (is : List PlainInst) (x : ℕ) : Type 0 where
  pub place : ℕ
  pub defined : IsDefinedAt is x place
  pub class : ℕ
  pub pointer : class_in (form_in defined.inst) ≡ Some class

-- each id that an OpTypeForwardPointer names is one
abbrev pub AreForwards : List PlainInst → Type 0
AreForwards is = (n x : ℕ) → Announces is n x → IsPointerType is x

-- A member of a struct is a use as a type.
abbrev of_type : Form
of_type = form.Id role.OfType

same_long : (G : Table) (fs : List Form) (os : List Plain) → AreOf G fs os → length fs ≡ length os
same_long G _ _ AreOf.none = refl
same_long G _ _ (AreOf.more f o fs os h r) = ap suc (same_long G fs os r)

member_form : (g : Form) (gs : List Form) (k : ℕ) → Ends (repeated (g ∷ [])) gs → k < length gs
    → slice_get gs k ≡ Some g
member_form g _ k (Ends.done _) h = absurd (omega (arith, h))
member_form g _ zero (Ends.again _ gs e) h = refl
member_form g _ (suc k) (Ends.again _ gs e) h = member_form g gs k e (omega (arith, h))

-- the row of OpTypeStruct
abbrev struct_row : PlainRow → Type 0
struct_row r = (r.fixed ≡ form.Result ∷ []) × (r.ending ≡ repeated (of_type ∷ []))

row_is : (r : PlainRow) → row_of opcode.TYPE_STRUCT ≡ Some r → struct_row r
unfolding rows
row_is r e = subst struct_row (same_Some _ r e) (refl, refl)

forms_at : (G : Table) (i : PlainInst) (fs : List Form) (k : ℕ) → i.opcode ≡ opcode.TYPE_STRUCT → HasForms G i fs
    → suc k < length i.operands → slice_get fs (suc k) ≡ Some of_type
forms_at G i fs k o h l =
    let s = row_is h.row (subst (λ (n : ℕ). row_of n ≡ Some h.row) o h.known) in
    let e : fs ≡ form.Result ∷ h.rest = h.forms ∙ ap (λ (xs : List Form). xs ++ h.rest) s.0 in
    let long = same_long G fs i.operands h.each in
    let more : length fs ≡ suc (length h.rest) = ap length e in
    let ends : Ends (repeated (of_type ∷ [])) h.rest = subst (λ x. Ends x h.rest) s.1 h.ending in
    ap (λ (xs : List Form). slice_get xs (suc k)) e
    ∙ member_form of_type h.rest k ends (omega (arith, long, more, l))

member_use : (G : Table) (i : PlainInst) (k x : ℕ) → i.opcode ≡ opcode.TYPE_STRUCT → FitsShape G i
    → slice_get i.operands (suc k) ≡ Some (Id x) → IsUse G i (suc k) x role.OfType
member_use G i k x o f at = record {
  forms = f.forms;
  has = f.has;
  form = of_type;
  operand = Id x;
  form_at = forms_at G i f.forms k o f.has (slice_get_within i.operands (suc k) (Id x) at);
  operand_at = at;
  role = refl;
  id = refl;
}

-- A struct stands in section 9.
class_there : (is : List PlainInst) (n : ℕ) (i : PlainInst) → slice_get is n ≡ Some i → i.opcode ≡ opcode.TYPE_STRUCT
    → slice_get (classes is) n ≡ Some Declaration
unfolding rows
class_there is n i at o = class_at is n i at ∙ ap (λ (k : ℕ). Some (class_of k)) o

early : (i : PlainInst) → i.opcode ≡ opcode.TYPE_STRUCT → is_early i.opcode ≡ true
early i o = rw o refl

in_section : (G : Table) (is : List PlainInst) (places : List Place) (n s : ℕ) (i : PlainInst) → IsPlan G is places
    → slice_get is n ≡ Some i → i.opcode ≡ opcode.TYPE_STRUCT → IsOfSection is n s → IsOfSection is n 11
in_section G is places n _ i p at o (IsOfSection.early c s h k) =
    let e : c ≡ Declaration = same_Some c Declaration (sym h ∙ class_there is n i at o) in
    let no : section_of Declaration ≡ Some s = subst (λ d. section_of d ≡ Some s) e k in
    absurd (cc)
in_section G is places n _ i p at o (IsOfSection.global c h k nowhere) = IsOfSection.global c h k nowhere
in_section G is places n _ i p at o (IsOfSection.declaration c f h k l d) =
    absurd (never_behind is f n i p.layout l.there l.up_to at (early i o))
in_section G is places n _ i p at o (IsOfSection.definition c f h k l d) =
    absurd (never_behind is f n i p.layout l.there l.up_to at (early i o))

place_there : (places : List Place) (n : ℕ) → n < length places → (p : Place) × (slice_get places n ≡ Some p)
place_there places n l =
    let d : Place = record { section = 0; function = None; block = None; word = 0 } in
    (get_or places n d, slice_get-get_or places n d l)

of_section : (G : Table) (is : List PlainInst) (places : List Place) (n : ℕ) (i : PlainInst) → IsPlan G is places
    → slice_get is n ≡ Some i → i.opcode ≡ opcode.TYPE_STRUCT → IsOfSection is n 11
of_section G is places n i p at o =
    let within = slice_get_within is n i at in
    let count = p.count in
    let q = place_there places n (omega (arith, within, count)) in
    in_section G is places n q.0.section i p at o (p.place n q.0 q.1).section

-- A struct is no pointer type.
struct_class : (i : PlainInst) → i.opcode ≡ opcode.TYPE_STRUCT → class_in (form_in i) ≡ None
struct_class i o = rw o refl

not_pointer : (is : List PlainInst) (x m : ℕ) (i : PlainInst) → slice_get is m ≡ Some i
    → i.opcode ≡ opcode.TYPE_STRUCT → ((k : ℕ) → IsDefinedAt is x k → k ≡ m) → ¬ (IsPointerType is x)
not_pointer is x m i at o only p =
    let e = only p.place p.defined in
    let there : slice_get is m ≡ Some p.defined.inst =
    subst (λ (k : ℕ). slice_get is k ≡ Some p.defined.inst) e p.defined.there in
    let same : p.defined.inst ≡ i = same_Some p.defined.inst i (sym there ∙ at) in
    let some : class_in (form_in i) ≡ Some p.class =
    subst (λ (j : PlainInst). class_in (form_in j) ≡ Some p.class) same p.pointer in
    let none = struct_class i o in cc

ordered : (is : List PlainInst) (n x m : ℕ) (i j : PlainInst) → AreForwards is → slice_get is n ≡ Some i
    → i.opcode ≡ opcode.TYPE_STRUCT → slice_get is m ≡ Some j → j.opcode ≡ opcode.TYPE_STRUCT
    → ((k : ℕ) → IsDefinedAt is x k → k ≡ m) → IsInOrder is n x → m < n
ordered is n x m i j forwards at o there u only (IsInOrder.lower k l d) =
    subst (λ (a : ℕ). a < n) (only k d) l
ordered is n x m i j forwards at o there u only (IsInOrder.announced s h) =
    let e = same_Some h.inst i (sym h.there ∙ at) in
    let same = h.same in
    let no : opcode.TYPE_STRUCT ≡ opcode.TYPE_FORWARD_POINTER =
    sym o ∙ subst (λ (k : PlainInst). k.opcode ≡ opcode.TYPE_FORWARD_POINTER) e same in
    absurd (omega (arith, no))
ordered is n x m i j forwards at o there u only (IsInOrder.member k s h l a) =
    absurd (not_pointer is x m j there u only (forwards k x a))

pub are_lower : (G : Table) (is : List PlainInst) (places : List Place) → IsPlan G is places
    → ((n k x : ℕ) (r : Role) → IsUsedAt G is n k x r → IsSoundUse is n x) → AreForwards is → AreLower is
are_lower G is places plan sounds forwards n t m members struct member =
    let i = struct.inst in
    let named : slice_get i.operands (suc member.place) ≡ Some (Id member.id) =
    ap (λ (os : List Plain). slice_get os (suc member.place)) struct.operands ∙ member.named in
    let used = member_use G i member.place member.id struct.opcode (plan.fits n i struct.there) named in
    let sound = sounds n (suc member.place) member.id role.OfType
    (record { inst = i; there = struct.there; used = used }) in
    let section = of_section G is places n i plan struct.there struct.opcode in
    ordered is n member.id m i member.struct.inst forwards struct.there struct.opcode member.struct.there
    member.struct.opcode member.defined.only (sound.order (inr section))
