-- The evidence for a rule that is broken.
use Rattle.std.proofs.Common.{◌≡◌, ℕ, List, Some, sym, subst}
use Rattle.std.specs.Prelude.{slice_get}
use Rattle.spv_table.specs.Table.{Table}
use Rattle.spv_module.specs.Operand.{PlainInst}
use Rattle.spv_module.specs.declared.fault.Rule.{Rule}
use Rattle.spv_module.specs.declared.fault.Rule.TheVariants as rule
use Rattle.spv_module.specs.declared.opcode.TheConstants as opcode
use Rattle.spv_ids.specs.Order.{HasOpcode}
use Rattle.spv_capabilities.specs.inner.Capable.{IsKernel}
use Rattle.spv_capabilities.specs.Memory.{IsModel}
use Rattle.spv_capabilities.specs.Asked.{HasEntry}
use Rattle.spv_capabilities.specs.Keeps.{Keeps}
use Rattle.spv_evidence.specs.declared.evidence.Evidence.{Evidence}
use Rattle.spv_evidence.specs.declared.evidence.Evidence.TheVariants as evidence
use Rattle.spv_evidence.specs.declared.evidence.EntryPart.{EntryPart}
use Rattle.spv_evidence.specs.declared.evidence.Lister.{Lister}
use Rattle.spv_form_evidence.specs.capabilities.Evidence.{IsEvidence, IsOtherModel, IsUncovered, IsUnsound}
use Rattle.spv_form_evidence.proofs.lemmas.capabilities.Calling.{decided}

has_opcode : (is : List PlainInst) (n : ℕ) (i : PlainInst) (P : Type 0) → slice_get is n ≡ Some i
    → ¬ (i.opcode ≡ opcode.MEMORY_MODEL → P) → HasOpcode is n opcode.MEMORY_MODEL
has_opcode is n i P t h = record { inst = i; there = t; same = decided P i.opcode opcode.MEMORY_MODEL h }

-- a rule that is broken at an instruction
module _ (G : Table) (is : List PlainInst) (n : ℕ) (i : PlainInst) (r : Rule) (there : slice_get is n ≡ Some i) where
  broken_c1 : r ≡ rule.C1 → ¬ (Keeps G is r n i) → ¬ (i.opcode ≡ opcode.MEMORY_MODEL → IsKernel G is)
  broken_c1 e h = subst (λ (q : Rule). ¬ (Keeps G is q n i)) e h

  broken_m1 : r ≡ rule.M1 → ¬ (Keeps G is r n i) → ¬ (i.opcode ≡ opcode.MEMORY_MODEL → IsModel i.operands)
  broken_m1 e h = subst (λ (q : Rule). ¬ (Keeps G is q n i)) e h

  broken_e1 : r ≡ rule.E1 → ¬ (Keeps G is r n i) → ¬ (i.opcode ≡ opcode.MEMORY_MODEL → HasEntry G is)
  broken_e1 e h = subst (λ (q : Rule). ¬ (Keeps G is q n i)) e h

  pub for_c1 : (f : Evidence) → r ≡ rule.C1 → ¬ (Keeps G is r n i)
      → (HasOpcode is n opcode.MEMORY_MODEL → IsEvidence G is rule.C1 n f) → IsEvidence G is r n f
  for_c1 f e h a =
      let o = has_opcode is n i (IsKernel G is) there (broken_c1 e h) in
      subst (λ (q : Rule). IsEvidence G is q n f) (sym e) (a o)

  pub for_c2 : (l : Lister) → r ≡ rule.C2 → IsUncovered G is i l → IsEvidence G is r n (evidence.Needs l)
  for_c2 l e u = subst (λ (q : Rule). IsEvidence G is q n (evidence.Needs l)) (sym e) (IsEvidence.needs n i l there u)

  pub for_m1 : (k : ℕ) → r ≡ rule.M1 → ¬ (Keeps G is r n i) → IsOtherModel i.operands k
      → IsEvidence G is r n (evidence.Operand k)
  for_m1 k e h other =
      let o = decided (IsModel i.operands) i.opcode opcode.MEMORY_MODEL (broken_m1 e h) in
      subst (λ (q : Rule). IsEvidence G is q n (evidence.Operand k)) (sym e) (IsEvidence.model n k i there o other)

  pub for_e1 : r ≡ rule.E1 → ¬ (Keeps G is r n i) → IsEvidence G is r n evidence.NoEntry
  for_e1 e h =
      let b = broken_e1 e h in
      let o = has_opcode is n i (HasEntry G is) there b in
      subst (λ (q : Rule). IsEvidence G is q n evidence.NoEntry) (sym e) (IsEvidence.no_entry n o (λ k. b (λ s. k)))

  pub for_e2 : (p : EntryPart) → r ≡ rule.E2 → IsUnsound G is n i p → IsEvidence G is r n (evidence.Entry p)
  for_e2 p e u = subst (λ (q : Rule). IsEvidence G is q n (evidence.Entry p)) (sym e) (IsEvidence.entry n i p there u)
