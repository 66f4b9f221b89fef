use Rattle.spv_module.specs.Module.{plain_insts}
use Rattle.spv_check.specs.flow.Definitions.{IsCount}
use Rattle.spv_check.proofs.flow.counting.count_definitions.Given as goal

abbrev pub invariant-loop-inst : goal.invariant-loop-inst
invariant-loop-inst l = IsCount (plain_insts l.module) l.inst l.count
