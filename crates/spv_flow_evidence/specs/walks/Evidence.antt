-- What shows that A1 or A2 is broken: a walk on which a value is not defined. [2.16, by walks instead of dominators]
use Rattle.std.specs.Prelude.{◌≤◌, ℕ, List, Bool, false, length, reverse, slice_get, option_map, unwrap_or}
use Rattle.std.specs.List.{filter}
use Rattle.spv_table.specs.Table.{Table}
use Rattle.spv_module.specs.Operand.{PlainInst}
use Rattle.spv_module.specs.declared.fault.Rule.{Rule}
use Rattle.spv_module.specs.declared.fault.Rule.TheVariants.{A1, A2}
use Rattle.spv_ids.specs.Definition.{IsDefinedAt}
use Rattle.spv_flow.specs.branches.Target.{is_label}
use Rattle.spv_flow.specs.branches.Walk.{IsWalk, IsResultAmong}
use Rattle.spv_flow.specs.branches.Ready.{IsMissing, IsPairMissing, ComesFrom}
use Rattle.spv_evidence.specs.declared.evidence.Evidence.{Evidence}
use Rattle.spv_evidence.specs.declared.evidence.Evidence.TheVariants.{Walk}

-- whether instruction n is an OpLabel
abbrev pub is_label_at : List PlainInst → ℕ → Bool
is_label_at is n = unwrap_or (option_map (λ i. is_label i.opcode) (slice_get is n)) false

-- the OpLabels among the instructions of a walk, which are given last first, from the first on
abbrev pub blocks_of : List PlainInst → List ℕ → List ℕ
blocks_of is past = reverse (filter (is_label_at is) past)

-- Every walk to instruction n on which the id is not the result of an earlier place passes at least as many blocks.
abbrev pub AreFewest : Table → List PlainInst → ℕ → ℕ → List ℕ → Type 0
AreFewest G is n x blocks =
    (f : ℕ) (past : List ℕ) → IsWalk G is f past n → ¬ (IsResultAmong is past x)
    → length blocks ≤ length (blocks_of is past)

-- So does every walk that comes to it from the parent, on which it is not that of a place before the last OpLabel.
abbrev pub AreFewestFrom : Table → List PlainInst → ℕ → ℕ → ℕ → List ℕ → Type 0
AreFewestFrom G is n parent x blocks =
    (before : List ℕ) (comes : ComesFrom G is n parent before) → ¬ (IsResultAmong is before x)
    → length blocks ≤ length (blocks_of is comes.past)

-- That the rule is broken at the instruction of that number is shown by the evidence: the operand, the instruction that
-- defines its value, and the blocks of a walk that misses it, of which there are no fewer on any other.
pub data IsEvidence (G : Table) (is : List PlainInst) : Rule → ℕ → Evidence → Type 0 where
  -- a use of a local value that a walk misses
  missing : (n d : ℕ) (m : IsMissing G is n) → IsDefinedAt is m.id d → AreFewest G is n m.id (blocks_of is m.past)
      → IsEvidence G is A1 n (Walk m.operand d (blocks_of is m.past))
  -- a pair whose value a walk misses
  pair_missing : (n d : ℕ) (m : IsPairMissing G is n) → IsDefinedAt is m.value d
      → AreFewestFrom G is n m.parent m.value (blocks_of is m.comes.past)
      → IsEvidence G is A2 n (Walk m.pair.operand d (blocks_of is m.comes.past))
