-- Declarations that break a rule, and what shows it.
use Rattle.std.proofs.Common.{◌≡◌, ◌≢◌, ◌<◌, ◌≤◌, ◌+◌, ◌∙◌, ℕ, zero, suc, List, [], ◌∷◌, Some, length}
use Rattle.std.proofs.Common.{refl, sym, ap, subst, inl, inr, arith, true}
use Rattle.std.specs.Prelude.{slice_get}
use Rattle.std.proofs.lemmas.Bool.{cases_lt}
use Rattle.std.proofs.lemmas.Option.{none-some, same_Some, slice_get_within}
use Rattle.spv_table.specs.Table.{Table}
use Rattle.spv_module.specs.declared.opcode.TheConstants as opcode
use Rattle.spv_module.specs.Operand.{Plain, Id, PlainInst}
use Rattle.spv_module.specs.declared.fault.Rule.{Rule}
use Rattle.spv_module.specs.declared.fault.Rule.TheVariants.{O3, O5, O6, O12, O13}
use Rattle.spv_type_forms.specs.declared.form.Form.{Form}
use Rattle.spv_type_forms.specs.declared.form.Form.TheVariants as form
use Rattle.spv_type_forms.specs.declared.form.Scalar.TheVariants as scalar
use Rattle.spv_type_forms.specs.Form.{form_in}
use Rattle.spv_evidence.specs.declared.evidence.Evidence.TheVariants.{Capability, Earlier, Operand}
use Rattle.spv_declarations.specs.Broken.{Broken}
use Rattle.spv_declarations.specs.Declarations.{IsIncapable, NeedsAnother}
use Rattle.spv_declarations.specs.Entry.{IsRepeated, TakesId, named_by}
use Rattle.spv_declarations.specs.Given.{HasId, HasIdBehind}
use Rattle.spv_standard_evidence.specs.Declarations.{IsEvidence, IsUndecorated}
use Rattle.spv_standard_evidence.specs.inner.Declarations.{AreNamesakes, IsIdAt}

-- an id among operands stands at a place, and one at a place is among them
pub place_of : (os : List Plain) (x : ℕ) → HasId os x → (k : ℕ) × (slice_get os k ≡ Some (Id x))
place_of [] x h = absurd h
place_of (Id y ∷ os) x h = elim h [
  | inl same ↦ (0, ap (λ (z : ℕ). Some (Id z)) same)
  | inr more ↦ (let r = place_of os x more in (suc r.0, r.1))
]
place_of (_ ∷ os) x h = let r = place_of os x h in (suc r.0, r.1)

pub behind_two : (os : List Plain) → HasIdBehind os → (k : ℕ) × IsIdAt os k
behind_two [] h = absurd h.1
behind_two (o ∷ []) h = absurd h.1
behind_two (o ∷ p ∷ os) h =
    let r = place_of os h.0 h.1 in (suc (suc r.0), (omega arith, (h.0, r.1)))

has_front : (o : Plain) (os : List Plain) (x : ℕ) → HasId os x → HasId (o ∷ os) x
has_front (Id y) os x h = inr h
has_front _ os x h = h

pub has_at : (os : List Plain) (k x : ℕ) → slice_get os k ≡ Some (Id x) → HasId os x
has_at [] k x e = absurd (none-some (Id x) e)
has_at (o ∷ os) zero x e = subst (λ (p : Plain). HasId (p ∷ os) x) (sym (same_Some o (Id x) e)) (inl refl)
has_at (o ∷ os) (suc k) x e = has_front o os x (has_at os k x e)

pub has_behind : (os : List Plain) (k x : ℕ) → 2 ≤ k → slice_get os k ≡ Some (Id x) → HasIdBehind os
has_behind [] k x l e = absurd (none-some (Id x) e)
has_behind (o ∷ os) zero x l e = absurd (omega (arith, l))
has_behind (o ∷ os) (suc zero) x l e = absurd (omega (arith, l))
has_behind (o ∷ []) (suc (suc k)) x l e = absurd (none-some (Id x) e)
has_behind (o ∷ p ∷ os) (suc (suc k)) x l e = (x, has_at os k x e)

-- an entry point that is repeated is so by a namesake before it
pub namesake : (is : List PlainInst) (n : ℕ) (i : PlainInst) (r : IsRepeated is n) → slice_get is n ≡ Some i
    → AreNamesakes i r.other
namesake is n i r there = record {
  model = r.model;
  name = r.name;
  one = subst (λ (j : PlainInst). named_by j ≡ Some (r.model, r.name)) (same_Some r.inst i (sym r.there ∙ there)) r.named;
  other = r.same;
}

pub repeated_by : (is : List PlainInst) (n m : ℕ) (i j : PlainInst) → slice_get is n ≡ Some i → slice_get is m ≡ Some j
    → m < n → AreNamesakes i j → (G : Table) → IsEvidence G is O3 n (Earlier m)
repeated_by is n m i j there before lower h G = IsEvidence.repeated n record {
  inst = i;
  there = there;
  model = h.model;
  name = h.name;
  named = h.one;
  before = m;
  lower = lower;
  other = j;
  other_there = before;
  same = h.other;
}

-- what is broken, by the rule
pub by_3 : (G : Table) (is : List PlainInst) (n : ℕ) → Broken G is O3 n → IsRepeated is n
by_3 G is _ (Broken.repeated n h) = h

pub by_5 : (G : Table) (is : List PlainInst) (n : ℕ) → Broken G is O5 n → TakesId is n
by_5 G is _ (Broken.takes_id n h) = h

pub by_13 : (G : Table) (is : List PlainInst) (n : ℕ) → Broken G is O13 n → IsIncapable G is n
by_13 G is _ (Broken.incapable n h) = h

pub shown_12 : (G : Table) (is : List PlainInst) (n : ℕ) → Broken G is O12 n → IsEvidence G is O12 n (Operand 0)
shown_12 G is _ (Broken.forward_elsewhere n h) = IsEvidence.elsewhere n h

pub shown_5 : (G : Table) (is : List PlainInst) (n k : ℕ) (i : PlainInst) → slice_get is n ≡ Some i → TakesId is n
    → IsIdAt i.operands k → IsEvidence G is O5 n (Operand k)
shown_5 G is n k i there h at =
    let same : h.0 ≡ i = same_Some h.0 i (sym h.1 ∙ there) in
    IsEvidence.takes_id n k i there record {
      called = subst (λ (j : PlainInst). j.opcode ≡ opcode.EXECUTION_MODE) same h.2.0;
      behind = at.0;
      id = at.1.0;
      there = at.1.1;
    }

pub takes_behind : (is : List PlainInst) (n : ℕ) (i : PlainInst) → slice_get is n ≡ Some i → TakesId is n
    → HasIdBehind i.operands
takes_behind is n i there h =
    subst (λ (j : PlainInst). HasIdBehind j.operands) (same_Some h.0 i (sym h.1 ∙ there)) h.2.1

six : (G : Table) (is : List PlainInst) (n : ℕ) → Broken G is O6 n → IsEvidence G is O6 n (Operand 1)
six G is _ (Broken.of_no_member n h) = IsEvidence.of_no_member n h

-- of the five rules the one that is left is O6
pub shown_6 : (G : Table) (is : List PlainInst) (n : ℕ) (r : Rule) → IsUndecorated r → r ≢ O3 → r ≢ O5 → r ≢ O12
    → r ≢ O13 → Broken G is r n → IsEvidence G is r n (Operand 1)
shown_6 G is n r u a b c d h = elim u [
  | inl e ↦ absurd (a e)
  | inr v ↦ elim v [
    | inl e ↦ absurd (b e)
    | inr w ↦ elim w [
      | inl e ↦ subst (λ (q : Rule). IsEvidence G is q n (Operand 1)) (sym e)
          (six G is n (subst (λ (q : Rule). Broken G is q n) e h))
      | inr x ↦ elim x [ inl e ↦ absurd (c e) | inr e ↦ absurd (d e) ]
    ]
  ]
]

-- ints of 8 bits, and the memory model
no_form : (i : PlainInst) (f : Form) → i.opcode ≡ opcode.MEMORY_MODEL → form_in i ≡ Some f → ⊥
no_form i f e h = none-some f (rw e at h)

pub shown_model : (G : Table) (is : List PlainInst) (n : ℕ) (i : PlainInst) → slice_get is n ≡ Some i
    → i.opcode ≡ opcode.MEMORY_MODEL → IsIncapable G is n → IsEvidence G is O13 n (Capability 5345 true)
shown_model G is n i there e h =
    let needs = subst (λ (j : PlainInst). NeedsAnother G is j) (same_Some h.0 i (sym h.1 ∙ there)) h.2 in
    elim needs [
      | inl bytes ↦ absurd (no_form i (form.Scalar (scalar.Int 8)) e bytes.0)
      | inr vulkan ↦ IsEvidence.vulkan n i there e vulkan.1
    ]

pub shown_bytes : (G : Table) (is : List PlainInst) (n : ℕ) (i : PlainInst) → slice_get is n ≡ Some i
    → i.opcode ≢ opcode.MEMORY_MODEL → IsIncapable G is n → IsEvidence G is O13 n (Operand 1)
shown_bytes G is n i there e h =
    let needs = subst (λ (j : PlainInst). NeedsAnother G is j) (same_Some h.0 i (sym h.1 ∙ there)) h.2 in
    elim needs [
      | inl bytes ↦ IsEvidence.bytes n i there bytes.0 bytes.1
      | inr vulkan ↦ absurd (e vulkan.0)
    ]

-- the instruction is there
pub there_3 : (is : List PlainInst) (n : ℕ) → IsRepeated is n → n < length is
there_3 is n h = slice_get_within is n h.inst h.there

pub there_5 : (is : List PlainInst) (n : ℕ) → TakesId is n → n < length is
there_5 is n h = slice_get_within is n h.0 h.1

pub there_13 : (G : Table) (is : List PlainInst) (n : ℕ) → IsIncapable G is n → n < length is
there_13 G is n h = slice_get_within is n h.0 h.1

-- instructions before one that are no namesakes: one more; and all
pub namesakes_more : (is : List PlainInst) (k : ℕ) (i j : PlainInst) → slice_get is k ≡ Some j → ¬ (AreNamesakes i j)
    → ((m : ℕ) (p : PlainInst) → m < k → slice_get is m ≡ Some p → ¬ (AreNamesakes i p))
    → (m : ℕ) (p : PlainInst) → m < k + 1 → slice_get is m ≡ Some p → ¬ (AreNamesakes i p)
namesakes_more is k i j there not before m p lt e = elim (cases_lt m k) [
  | inl less ↦ before m p less e
  | inr more ↦
      let same : m ≡ k = omega (arith, lt, more) in
      let at : slice_get is k ≡ Some p = subst (λ (n : ℕ). slice_get is n ≡ Some p) same e in
      subst (λ (q : PlainInst). ¬ (AreNamesakes i q)) (same_Some j p (sym there ∙ at)) not
]

pub no_namesake : (is : List PlainInst) (n k : ℕ) (i : PlainInst) → slice_get is n ≡ Some i → n ≤ k
    → ((m : ℕ) (p : PlainInst) → m < k → slice_get is m ≡ Some p → ¬ (AreNamesakes i p)) → IsRepeated is n → ⊥
no_namesake is n k i there all none r =
    let lower = r.lower in
    none r.before r.other (omega (arith, lower, all)) r.other_there (namesake is n i r there)
