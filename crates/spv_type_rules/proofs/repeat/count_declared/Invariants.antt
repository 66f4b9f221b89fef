use Rattle.std.proofs.Common.{◌≤◌}
use Rattle.spv_type_rules.proofs.repeat.count_declared.Given as goal

abbrev pub invariant-loop-inst : goal.invariant-loop-inst
invariant-loop-inst l = l.count ≤ l.inst-index
