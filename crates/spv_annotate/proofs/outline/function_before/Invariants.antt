use Rattle.std.proofs.Common.{◌≡◌, ◌≤◌, map}
use Rattle.spv_module.specs.Module.{plain_inst}
use Rattle.spv_annotate.specs.Module.{open_function}
use Rattle.spv_annotate.proofs.outline.function_before.Given as goal

abbrev pub decreases-loop-last : goal.decreases-loop-last
decreases-loop-last l = l.last

abbrev pub invariant-loop-last : goal.invariant-loop-last
invariant-loop-last l =
    open_function (map plain_inst l.insts) l.last ≡ open_function (map plain_inst l.fn.insts) l.fn.at
