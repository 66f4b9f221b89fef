-- What shows that O1 or O2 is broken. Blocks go by their OpLabels. [2.16.1, 2.2.5; own]
use Rattle.std.specs.Prelude.{ℕ, List}
use Rattle.spv_table.specs.Table.{Table}
use Rattle.spv_module.specs.Operand.{PlainInst}
use Rattle.spv_module.specs.declared.fault.Rule.{Rule}
use Rattle.spv_module.specs.declared.fault.Rule.TheVariants.{O1, O2}
use Rattle.spv_block_order.specs.Early.{IsEarlyIn, IsEarlyUse}
use Rattle.spv_evidence.specs.declared.evidence.Evidence.{Evidence}
use Rattle.spv_evidence.specs.declared.evidence.Evidence.TheVariants.{Defined, OnTheWay}

-- It shows that the rule is broken at the instruction of that number.
pub data IsEvidence (G : Table) (is : List PlainInst) : Rule → ℕ → Evidence → Type 0 where
  -- a block that stands higher and is on the way to this one
  early_block : (f n : ℕ) (e : IsEarlyIn G is f n) → IsEvidence G is O1 n (OnTheWay e.block)
  -- the operand, and the definition of its id, which is not lower
  early_use : (n : ℕ) (e : IsEarlyUse G is n) → IsEvidence G is O2 n (Defined e.operand e.local.place)
