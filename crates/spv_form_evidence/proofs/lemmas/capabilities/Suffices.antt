-- Where there is evidence, the rule is broken.
use Rattle.std.proofs.Common.{◌≡◌, ◌≢◌, ◌∙◌, ℕ, zero, suc, List, [], ◌∷◌, Contains, Option, Some, None, Bool, true}
use Rattle.std.proofs.Common.{false, refl, sym, subst, inl, inr, nat_eq, arith}
use Rattle.std.specs.Prelude.{◌⊎◌, slice_get, if◌then◌else◌}
use Rattle.std.specs.List.{AllByRecursion}
use Rattle.std.proofs.lemmas.Bool.{eqb-true}
use Rattle.spv_table.specs.Table.{Table}
use Rattle.spv_table.proofs.Search.{in_cons}
use Rattle.spv_module.specs.Operand.{Plain, Id, Value, Mask, PlainInst}
use Rattle.spv_module.specs.Spelling.{set_bits}
use Rattle.spv_module.specs.declared.fault.Rule.{Rule}
use Rattle.spv_module.specs.declared.opcode.TheConstants as opcode
use Rattle.spv_layout.specs.Place.{IsDefinition}
use Rattle.spv_ids.specs.Definition.{IsDefinedAt}
use Rattle.spv_ids.specs.Order.{HasOpcode}
use Rattle.spv_capabilities.specs.Capable.{Has, HasOneOf, IsCapable, IsCoveredOperand, IsCoveredValue, IsCoveredMask}
use Rattle.spv_capabilities.specs.Capable.{image_needs, is_read_write, needs_of}
use Rattle.spv_capabilities.specs.Memory.{IsModel}
use Rattle.spv_capabilities.specs.Entry.{IsKernelFunction, IsSoundEntry, ReturnsVoid, second_id, called_by, entered_by}
use Rattle.spv_capabilities.specs.Keeps.{Keeps, KeepsEntries}
use Rattle.spv_capabilities.proofs.Gathering.{entered_here}
use Rattle.spv_evidence.specs.declared.evidence.Evidence.{Evidence}
use Rattle.spv_evidence.specs.declared.evidence.EntryPart.{EntryPart}
use Rattle.spv_evidence.specs.declared.evidence.Lister.{Lister}
use Rattle.spv_form_evidence.specs.capabilities.Evidence.{IsEvidence, IsOtherModel, IsUncovered, IsUnsound}

-- ---- the instruction of a number

pub same_inst : (is : List PlainInst) (n : ℕ) (i j : PlainInst) → slice_get is n ≡ Some i → slice_get is n ≡ Some j
    → j ≡ i
same_inst is n i j s t = let e : Some j ≡ Some i = sym t ∙ s in cc

pub opcode_at : (is : List PlainInst) (n o : ℕ) (i : PlainInst) → slice_get is n ≡ Some i → HasOpcode is n o
    → i.opcode ≡ o
opcode_at is n o i t h =
    let e : h.inst ≡ i = same_inst is n i h.inst t h.there in
    subst (λ (j : PlainInst). j.opcode ≡ o) e h.same

-- ---- what holds of all holds of each

all_get : {A : Type 0} (P : A → Type 0) (xs : List A) (k : ℕ) (x : A) → AllByRecursion P xs → slice_get xs k ≡ Some x
    → P x
all_get P [] k x a e = absurd (let no : None ≡ Some x = e in cc)
all_get P (y ∷ ys) zero x a e = let s : y ≡ x = cc in subst P s a.0
all_get P (y ∷ ys) (suc k) x a e = all_get P ys k x a.1 e

all_contains : (P : ℕ → Type 0) (xs : List ℕ) (x : ℕ) → AllByRecursion P xs → Contains xs x → P x
all_contains P [] x a h = absurd (omega (arith, h.1))
all_contains P (y ∷ ys) x a h = elim (in_cons y ys x h) [
  | inl s ↦ subst P s a.0
  | inr later ↦ all_contains P ys x a.1 later
]

mask_contains : (G : Table) (is : List PlainInst) (k m b : ℕ) → IsCoveredMask G is k m → Contains (set_bits m) b
    → IsCoveredValue G is k b
unfolding IsCoveredMask
mask_contains G is k m b a h = all_contains (IsCoveredValue G is k) (set_bits m) b a h

-- ---- C2 and M1

-- what image and sampler types need

pub needs_sampler : (i : PlainInst) → i.opcode ≡ opcode.TYPE_SAMPLER → needs_of i ≡ (13 ∷ []) ∷ []
needs_sampler i o =
    subst (λ (n : ℕ). needs_of (record { opcode = n; operands = i.operands }) ≡ (13 ∷ []) ∷ []) (sym o) refl

pub needs_image : (i : PlainInst) → i.opcode ≡ opcode.TYPE_IMAGE → needs_of i ≡ image_needs i.operands
needs_image i o =
    subst (λ (n : ℕ). needs_of (record { opcode = n; operands = i.operands }) ≡ image_needs i.operands) (sym o) refl

has_one : (G : Table) (is : List PlainInst) (c : ℕ) → HasOneOf G is (c ∷ []) → Has G is c
has_one G is c h = elim h [ inl a ↦ a | inr n ↦ absurd n ]

type_needs : (G : Table) (is : List PlainInst) (i : PlainInst)
    → (i.opcode ≡ opcode.TYPE_IMAGE) ⊎ (i.opcode ≡ opcode.TYPE_SAMPLER)
    → AllByRecursion (HasOneOf G is) (needs_of i) → Has G is 13
type_needs G is i (inl o) a = has_one G is 13 (subst (λ ns. AllByRecursion (HasOneOf G is) ns) (needs_image i o) a).0
type_needs G is i (inr o) a = has_one G is 13 (subst (λ ns. AllByRecursion (HasOneOf G is) ns) (needs_sampler i o) a).0

access_needs : (G : Table) (is : List PlainInst) (i : PlainInst) → i.opcode ≡ opcode.TYPE_IMAGE
    → is_read_write (slice_get i.operands 8) ≡ true → AllByRecursion (HasOneOf G is) (needs_of i) → Has G is 14
access_needs G is i o b a =
    let all = subst (λ ns. AllByRecursion (HasOneOf G is) ns) (needs_image i o) a in
    let both = subst (λ (c : Bool). AllByRecursion (HasOneOf G is) ((13 ∷ []) ∷ (if c then (14 ∷ []) ∷ [] else []))) b
    all in
    has_one G is 14 both.1.0

uncovered_breaks : (G : Table) (is : List PlainInst) (i : PlainInst) (l : Lister) → IsUncovered G is i l
    → ¬ (IsCapable G is i)
uncovered_breaks G is i _ (IsUncovered.entry h) c = h c.entry
uncovered_breaks G is i _ (IsUncovered.value k j v t o h) c =
    h (all_get (IsCoveredOperand G is) i.operands k (Value j v) c.operands t o)
uncovered_breaks G is i _ (IsUncovered.bit k j m b t o s h) c =
    h (mask_contains G is j m b (all_get (IsCoveredOperand G is) i.operands k (Mask j m) c.operands t o) s)
uncovered_breaks G is i _ (IsUncovered.width a b h) c = h c.needs
uncovered_breaks G is i _ (IsUncovered.type o h) c = h (type_needs G is i o c.needs)
uncovered_breaks G is i _ (IsUncovered.access o b h) c = h (access_needs G is i o b c.needs)

no_addressing : (os : List Plain) → ((k a : ℕ) → slice_get os 0 ≡ Some (Value k a) → (a ≢ 1) × (a ≢ 2)) → ¬ (IsModel os)
no_addressing (Value k a ∷ Value l m ∷ []) h s = let n = h k a refl in elim s.0 [ inl e ↦ n.0 e | inr e ↦ n.1 e ]
no_addressing _ h s = s

no_memory : (os : List Plain) → ((k m : ℕ) → slice_get os 1 ≡ Some (Value k m) → m ≢ 2) → ¬ (IsModel os)
no_memory (Value k a ∷ Value l m ∷ []) h s = h l m refl s.1
no_memory _ h s = s

no_third : (os : List Plain) (o : Plain) → slice_get os 2 ≡ Some o → ¬ (IsModel os)
no_third (Value k a ∷ Value l m ∷ []) o h s = absurd (let no : None ≡ Some o = h in cc)
no_third _ o h s = s

other_breaks : (os : List Plain) (k : ℕ) → IsOtherModel os k → ¬ (IsModel os)
other_breaks os _ (IsOtherModel.addressing h) s = no_addressing os h s
other_breaks os _ (IsOtherModel.memory h) s = no_memory os h s
other_breaks os _ (IsOtherModel.more o h) s = no_third os o h s

-- ---- E2

no_model : (is : List PlainInst) (os : List Plain) → ((k m : ℕ) → slice_get os 0 ≡ Some (Value k m) → m ≢ 6)
    → ¬ (IsSoundEntry is os)
no_model is (Value k m ∷ Id x ∷ os) h s = h k m refl s.0
no_model is _ h s = s

-- A sound entry is one of a function that may be entered.
pub record IsOfKernelFunction (is : List PlainInst) (os : List Plain) : Type 0 where
  pub id : ℕ
  pub named : second_id os ≡ Some id
  pub function : IsKernelFunction is id

sound_function : (is : List PlainInst) (os : List Plain) → IsSoundEntry is os → IsOfKernelFunction is os
sound_function is (Value k m ∷ Id x ∷ os) s = record { id = x; named = refl; function = s.1 }
sound_function is _ s = absurd s

opened : (b : Bool) (o : Option ℕ) (x : ℕ) → (if b then o else None) ≡ Some x → (b ≡ true) × (o ≡ Some x)
opened true o x e = (refl, e)
opened false o x e = absurd (let no : None ≡ Some x = e in cc)

pub entered_opcode : (i : PlainInst) (x : ℕ) → entered_by i ≡ Some x → i.opcode ≡ opcode.ENTRY_POINT
entered_opcode i x e =
    eqb-true i.opcode opcode.ENTRY_POINT (opened (nat_eq i.opcode opcode.ENTRY_POINT) (second_id i.operands) x e).0

pub entered_second : (i : PlainInst) (x : ℕ) → entered_by i ≡ Some x → second_id i.operands ≡ Some x
entered_second i x e = (opened (nat_eq i.opcode opcode.ENTRY_POINT) (second_id i.operands) x e).1

no_declaration : (is : List PlainInst) (i : PlainInst) → i.opcode ≡ opcode.ENTRY_POINT
    → ((x f : ℕ) → entered_by i ≡ Some x → IsDefinedAt is x f → ¬ (IsDefinition is f)) → ¬ (IsSoundEntry is i.operands)
no_declaration is i o h s =
    let k = sound_function is i.operands s in
    h k.id k.function.function (entered_here i (Some k.id) o (sym k.named)) k.function.defined k.function.definition

no_return : (is : List PlainInst) (i : PlainInst) → i.opcode ≡ opcode.ENTRY_POINT
    → ((x f : ℕ) → entered_by i ≡ Some x → IsDefinedAt is x f → ¬ (ReturnsVoid is f)) → ¬ (IsSoundEntry is i.operands)
no_return is i o h s =
    let k = sound_function is i.operands s in
    h k.id k.function.function (entered_here i (Some k.id) o (sym k.named)) k.function.defined k.function.void

call_breaks : (is : List PlainInst) (i call : PlainInst) (x c : ℕ) → entered_by i ≡ Some x → slice_get is c ≡ Some call
    → called_by call ≡ Some x → ¬ (IsSoundEntry is i.operands)
call_breaks is i call x c e t n s =
    let k = sound_function is i.operands s in
    let q : Some x ≡ Some k.id = sym (entered_second i x e) ∙ k.named in
    let y : x ≡ k.id = cc in
    let named = subst (λ (z : ℕ). called_by call ≡ Some z) y n in
    k.function.uncalled (record {
      place = c;
      inst = call;
      there = t;
      id = k.id;
      named = named;
      defined = k.function.defined;
    })

unsound_breaks : (G : Table) (is : List PlainInst) (n : ℕ) (i : PlainInst) (p : EntryPart) → IsUnsound G is n i p
    → ¬ (KeepsEntries G is n i)
unsound_breaks G is n i _ (IsUnsound.model o h) k = no_model is i.operands h (k.entry o)
unsound_breaks G is n i _ (IsUnsound.declared o h) k = no_declaration is i o h (k.entry o)
unsound_breaks G is n i _ (IsUnsound.returns o h) k = no_return is i o h (k.entry o)
unsound_breaks G is n i _ (IsUnsound.called x c call e t h) k =
    call_breaks is i call x c e t h (k.entry (entered_opcode i x e))
unsound_breaks G is n i _ (IsUnsound.unnamed o h) k = h (k.mode o)
unsound_breaks G is n i _ (IsUnsound.imported m o d) k = (k.linkage o).0 m d
unsound_breaks G is n i _ (IsUnsound.missing o d m) k = m ((k.linkage o).1 d)

-- ---- the law

pub breaks : (G : Table) (is : List PlainInst) (r : Rule) (n : ℕ) (e : Evidence) (i : PlainInst) → IsEvidence G is r n e
    → slice_get is n ≡ Some i → ¬ (Keeps G is r n i)
breaks G is _ _ _ i (IsEvidence.no_kernel n o h) t k = h (k (opcode_at is n opcode.MEMORY_MODEL i t o)).0
breaks G is _ _ _ i (IsEvidence.shader n o h) t k = (k (opcode_at is n opcode.MEMORY_MODEL i t o)).1 h
breaks G is _ _ _ i (IsEvidence.needs n j l s u) t k =
    uncovered_breaks G is i l (subst (λ (x : PlainInst). IsUncovered G is x l) (same_inst is n i j t s) u) k
breaks G is _ _ _ i (IsEvidence.model n m j s o u) t k =
    let e : j ≡ i = same_inst is n i j t s in
    let other = subst (λ (x : PlainInst). IsOtherModel x.operands m) e u in
    other_breaks i.operands m other (k (subst (λ (x : PlainInst). x.opcode ≡ opcode.MEMORY_MODEL) e o))
breaks G is _ _ _ i (IsEvidence.no_entry n o h) t k = h (k (opcode_at is n opcode.MEMORY_MODEL i t o))
breaks G is _ _ _ i (IsEvidence.entry n j p s u) t k =
    unsound_breaks G is n i p (subst (λ (x : PlainInst). IsUnsound G is n x p) (same_inst is n i j t s) u) k
