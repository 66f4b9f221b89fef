use Rattle.std.proofs.Common.{ℕ, drop}
use Rattle.spv_table.specs.Table.{Table}
use Rattle.spv_module.specs.Malformed.{IsMalformedAt}
use Rattle.spv_module.specs.declared.fault.Rule.{Rule}
use Rattle.spv_views.specs.inner.Beginning.{IsOnWay}
use Rattle.spv_views.proofs.beginning.place_of.Given as goal

abbrev pub decreases-loop-left : goal.decreases-loop-left
decreases-loop-left l = l.left

abbrev pub invariant-loop-left : goal.invariant-loop-left
invariant-loop-left l = (G : Table) (rule : Rule) (n : ℕ) → IsMalformedAt G (drop 5 l.image) rule l.inst n
    → IsOnWay G l.image rule l.left l.at
