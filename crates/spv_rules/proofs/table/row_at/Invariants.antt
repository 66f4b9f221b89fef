use Rattle.spv_rules.proofs.Rows.{StandsIn}
use Rattle.spv_rules.proofs.table.row_at.Given as goal

abbrev pub invariant-loop-part : goal.invariant-loop-part
invariant-loop-part l = StandsIn l.part l.left l.place
