use Rattle.std.proofs.Common.{◌≡◌, drop, map}
use Rattle.spv_module.specs.Module.{plain_inst}
use Rattle.spv_pictures.specs.Calls.{has_label}
use Rattle.spv_pictures.proofs.calls.has_label.Given as goal

abbrev pub invariant-loop-inst : goal.invariant-loop-inst
invariant-loop-inst l = has_label (map plain_inst l.insts) ≡ has_label (map plain_inst (drop l.inst-index l.insts))
