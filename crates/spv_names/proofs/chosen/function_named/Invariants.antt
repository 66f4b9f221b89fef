use Rattle.std.proofs.Common.{drop, map}
use Rattle.spv_module.specs.Module.{plain_inst}
use Rattle.spv_names.proofs.Given.{IsSeen}
use Rattle.spv_names.proofs.chosen.function_named.Given as goal

abbrev pub invariant-loop-inst : goal.invariant-loop-inst
invariant-loop-inst l =
    IsSeen (map plain_inst l.insts) l.name (map plain_inst (drop l.inst-index l.insts)) l.found
