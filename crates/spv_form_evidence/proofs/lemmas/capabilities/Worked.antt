-- What is evidence, and what is not, in the small modules of the worked examples.
use Rattle.std.proofs.Common.{◌≡◌, ◌≢◌, ◌∙◌, ℕ, List, Option, Some, None, true, false, refl, sym, ap, subst, inl, inr}
use Rattle.std.proofs.Common.{option_and_then, arith}
use Rattle.std.specs.Prelude.{slice_get}
use Rattle.spv_table.specs.Table.{Table}
use Rattle.spv_module.specs.Operand.{Plain, Value, Mask, PlainInst}
use Rattle.spv_module.specs.declared.fault.Rule.TheVariants as rule
use Rattle.spv_capabilities.specs.Capable.{Has, IsCoveredValue}
use Rattle.spv_capabilities.specs.Entry.{called_by}
use Rattle.spv_capabilities.specs.Example.{small, called}
use Rattle.spv_capabilities.proofs.Worked.{has_kernel, has_no_kernel}
use Rattle.spv_evidence.specs.declared.evidence.Evidence.{Evidence}
use Rattle.spv_evidence.specs.declared.evidence.Evidence.TheVariants as evidence
use Rattle.spv_evidence.specs.declared.evidence.EntryPart.{EntryPart}
use Rattle.spv_evidence.specs.declared.evidence.EntryPart.TheVariants as part
use Rattle.spv_evidence.specs.declared.evidence.Lister.{Lister}
use Rattle.spv_evidence.specs.declared.evidence.Lister.TheVariants as lister
use Rattle.spv_form_evidence.specs.capabilities.Evidence.{IsEvidence, IsOtherModel, IsUncovered, IsUnsound}
use Rattle.spv_form_evidence.specs.capabilities.Example.{loading, simple}

-- what is at an operand of an instruction, and what an instruction calls
abbrev operand_of : ℕ → Option PlainInst → Option Plain
operand_of k o = option_and_then (λ i. slice_get i.operands k) o

abbrev called_of : Option PlainInst → Option ℕ
called_of o = option_and_then called_by o

-- ---- C1

pub no_kernel : IsEvidence small (simple 5) rule.C1 1 (evidence.Capability 6 false)
no_kernel = IsEvidence.no_kernel 1 (record { inst = _; there = refl; same = refl }) has_no_kernel

without_kernel : (G : Table) (is : List PlainInst) (n : ℕ) (e : Evidence) → IsEvidence G is rule.C1 n e
    → e ≡ evidence.Capability 6 false → ¬ (Has G is 6)
without_kernel G is _ _ (IsEvidence.no_kernel n o h) q = h
without_kernel G is _ _ (IsEvidence.shader n o h) q = absurd (let no : true ≡ false = cc in cc)

pub kernel : ¬ (IsEvidence small (simple 7) rule.C1 1 (evidence.Capability 6 false))
kernel e = without_kernel small (simple 7) 1 (evidence.Capability 6 false) e refl has_kernel

-- ---- C2

uncovered : ¬ (IsCoveredValue small loading 1 4)
uncovered h = elim h [ inl e ↦ cc | inr n ↦ elim n [ inl k ↦ k | inr z ↦ z ] ]

pub bit : IsEvidence small loading rule.C2 1 (evidence.Needs (lister.Bit 3 4))
bit =
    IsEvidence.needs 1 _ (lister.Bit 3 4) refl
    (IsUncovered.bit 3 1 5 4 refl (λ e. let no : Some 0 ≡ Some 1 = e in cc) (1, omega arith, refl) uncovered)

-- what the evidence of a bit says
record HasBit (G : Table) (is : List PlainInst) (os : List Plain) (k b : ℕ) : Type 0 where
  pub kind : ℕ
  pub mask : ℕ
  pub there : slice_get os k ≡ Some (Mask kind mask)
  pub uncovered : ¬ (IsCoveredValue G is kind b)

bit_at : (G : Table) (is : List PlainInst) (i : PlainInst) (l : Lister) (k b : ℕ) → IsUncovered G is i l
    → l ≡ lister.Bit k b → HasBit G is i.operands k b
bit_at G is i _ k b (IsUncovered.entry h) q = absurd (let no : lister.Entry ≡ lister.Bit k b = q in cc)
bit_at G is i _ k b (IsUncovered.value y j v t o h) q = absurd (let no : lister.Value y ≡ lister.Bit k b = q in cc)
bit_at G is i _ k b (IsUncovered.bit y j m c t o s h) q =
    let p : y ≡ k = cc in
    let r : c ≡ b = cc in
    record {
      kind = j;
      mask = m;
      there = subst (λ (z : ℕ). slice_get i.operands z ≡ Some (Mask j m)) p t;
      uncovered = subst (λ (z : ℕ). ¬ (IsCoveredValue G is j z)) r h;
    }
bit_at G is i _ k b (IsUncovered.width n m h) q = absurd (let no : lister.Width ≡ lister.Bit k b = q in cc)
bit_at G is i _ k b (IsUncovered.type o h) q = absurd (let no : lister.Type ≡ lister.Bit k b = q in cc)
bit_at G is i _ k b (IsUncovered.access o m h) q = absurd (let no : lister.Access ≡ lister.Bit k b = q in cc)

record NeedsBit (G : Table) (is : List PlainInst) (n k b : ℕ) : Type 0 where
  pub inst : PlainInst
  pub there : slice_get is n ≡ Some inst
  pub bit : HasBit G is inst.operands k b

needs_bit : (G : Table) (is : List PlainInst) (n : ℕ) (e : Evidence) (k b : ℕ) → IsEvidence G is rule.C2 n e
    → e ≡ evidence.Needs (lister.Bit k b) → NeedsBit G is n k b
needs_bit G is _ _ k b (IsEvidence.needs n i l t u) q =
    let r : l ≡ lister.Bit k b = cc in
    record { inst = i; there = t; bit = bit_at G is i l k b u r }

covered : IsCoveredValue small loading 1 1
covered = inr (inr (inl has_kernel))

pub covered_bit : ¬ (IsEvidence small loading rule.C2 1 (evidence.Needs (lister.Bit 3 1)))
covered_bit e =
    let n = needs_bit small loading 1 (evidence.Needs (lister.Bit 3 1)) 3 1 e refl in
    let s : Some (Mask 1 5) ≡ Some (Mask n.bit.kind n.bit.mask) = ap (operand_of 3) n.there ∙ n.bit.there in
    let k : 1 ≡ n.bit.kind = cc in
    n.bit.uncovered (subst (λ (z : ℕ). IsCoveredValue small loading z 1) k covered)

-- ---- M1

pub model : IsEvidence small (simple 5) rule.M1 1 (evidence.Operand 1)
model = IsEvidence.model 1 1 _ refl refl (IsOtherModel.memory (λ k m e s.
    let q : Some (Value 4 0) ≡ Some (Value k m) = e in
    let z : 0 ≡ m = cc in
    absurd (omega arith)))

addressing_at : (os : List Plain) (k : ℕ) → IsOtherModel os k → k ≡ 0 → (j a : ℕ) → slice_get os 0 ≡ Some (Value j a)
    → (a ≢ 1) × (a ≢ 2)
addressing_at os _ (IsOtherModel.addressing h) q = h
addressing_at os _ (IsOtherModel.memory h) q = absurd (omega (arith, q))
addressing_at os _ (IsOtherModel.more o h) q = absurd (omega (arith, q))

record HasOtherModel (is : List PlainInst) (n k : ℕ) : Type 0 where
  pub inst : PlainInst
  pub there : slice_get is n ≡ Some inst
  pub other : IsOtherModel inst.operands k

other_at : (G : Table) (is : List PlainInst) (n : ℕ) (e : Evidence) (k : ℕ) → IsEvidence G is rule.M1 n e
    → e ≡ evidence.Operand k → HasOtherModel is n k
other_at G is _ _ k (IsEvidence.model n m i t o u) q =
    let r : m ≡ k = cc in
    record { inst = i; there = t; other = subst (λ (z : ℕ). IsOtherModel i.operands z) r u }

pub addressing : ¬ (IsEvidence small (simple 5) rule.M1 1 (evidence.Operand 0))
addressing e =
    let n = other_at small (simple 5) 1 (evidence.Operand 0) 0 e refl in
    (addressing_at n.inst.operands 0 n.other refl 3 1 (sym (ap (operand_of 0) n.there))).0 refl

-- ---- E2

pub call : IsEvidence small called rule.E2 1 (evidence.Entry (part.Called 0))
call = IsEvidence.entry 1 _ (part.Called 0) refl (IsUnsound.called 3 0 _ refl refl refl)

-- what the evidence of a call says
record HasCall (is : List PlainInst) (c : ℕ) : Type 0 where
  pub call : PlainInst
  pub there : slice_get is c ≡ Some call
  pub id : ℕ
  pub called : called_by call ≡ Some id

call_at : (G : Table) (is : List PlainInst) (n : ℕ) (i : PlainInst) (p : EntryPart) (c : ℕ) → IsUnsound G is n i p
    → p ≡ part.Called c → HasCall is c
call_at G is n i _ c (IsUnsound.model o h) q = absurd (let no : part.Model ≡ part.Called c = q in cc)
call_at G is n i _ c (IsUnsound.declared o h) q = absurd (let no : part.Declared ≡ part.Called c = q in cc)
call_at G is n i _ c (IsUnsound.returns o h) q = absurd (let no : part.Returns ≡ part.Called c = q in cc)
call_at G is n i _ c (IsUnsound.called x d j e t h) q =
    let r : d ≡ c = cc in
    record { call = j; there = subst (λ (z : ℕ). slice_get is z ≡ Some j) r t; id = x; called = h }
call_at G is n i _ c (IsUnsound.unnamed o h) q = absurd (let no : part.Unnamed ≡ part.Called c = q in cc)
call_at G is n i _ c (IsUnsound.imported m o d) q = absurd (let no : part.Imported m.place ≡ part.Called c = q in cc)
call_at G is n i _ c (IsUnsound.missing o d m) q = absurd (let no : part.Missing ≡ part.Called c = q in cc)

entry_call : (G : Table) (is : List PlainInst) (n : ℕ) (e : Evidence) (c : ℕ) → IsEvidence G is rule.E2 n e
    → e ≡ evidence.Entry (part.Called c) → HasCall is c
entry_call G is _ _ c (IsEvidence.entry n i p t u) q = call_at G is n i p c u (let r : p ≡ part.Called c = cc in r)

pub no_call : ¬ (IsEvidence small called rule.E2 1 (evidence.Entry (part.Called 1)))
no_call e =
    let h = entry_call small called 1 (evidence.Entry (part.Called 1)) 1 e refl in
    let n : called_of (slice_get called 1) ≡ Some h.id = ap called_of h.there ∙ h.called in
    let no : None ≡ Some h.id = n in
    cc
