use Rattle.std.proofs.Common.{◌<◌, ◌≤◌, ℕ}
use Rattle.spv_table.specs.Table.{Table}
use Rattle.spv_flow.specs.walks.inner.Code.{insts_of, IsCode}
use Rattle.spv_block_order.specs.Early.{IsEarlyUse}
use Rattle.spv_block_order.proofs.uses.first_early_use.Given as goal

abbrev pub invariant-loop-at : goal.invariant-loop-at
invariant-loop-at l = (G : Table) → IsCode G l.code → (m : ℕ) → l.from ≤ m → m < l.at
    → ¬ (IsEarlyUse G (insts_of l.code) m)
