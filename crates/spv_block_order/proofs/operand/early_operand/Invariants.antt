use Rattle.std.proofs.Common.{◌<◌, ℕ}
use Rattle.spv_table.specs.Table.{Table}
use Rattle.spv_flow.specs.walks.inner.Code.{insts_of, IsCode}
use Rattle.spv_block_order.specs.inner.Uses.{IsEarlyAt}
use Rattle.spv_block_order.proofs.operand.early_operand.Given as goal

abbrev pub invariant-loop-n : goal.invariant-loop-n
invariant-loop-n l = (G : Table) → IsCode G l.code → (k : ℕ) → k < l.n → ¬ (IsEarlyAt G (insts_of l.code) l.at k)
