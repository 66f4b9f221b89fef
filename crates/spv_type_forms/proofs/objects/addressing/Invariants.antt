use Rattle.std.proofs.Common.{◌≡◌, drop, map}
use Rattle.spv_module.specs.Module.{plain_inst}
use Rattle.spv_type_forms.specs.Objects.{addressing_of}
use Rattle.spv_type_forms.proofs.objects.addressing.Given as goal

abbrev pub invariant-loop-inst : goal.invariant-loop-inst
invariant-loop-inst l =
    addressing_of (map plain_inst l.insts) ≡ addressing_of (map plain_inst (drop l.inst-index l.insts))
