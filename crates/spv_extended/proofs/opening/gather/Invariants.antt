use Rattle.std.proofs.Common.{◌≡◌, ◌++◌, drop, map}
use Rattle.spv_module.specs.Module.{plain_inst, plain_operands}
use Rattle.spv_extended.specs.inner.Found.{set_found}
use Rattle.spv_extended.specs.inner.Parts.{all_opened}
use Rattle.spv_extended.proofs.opening.gather.Given as goal

abbrev pub invariant-loop-inst : goal.invariant-loop-inst
invariant-loop-inst l = plain_operands l.list.items ++ all_opened (set_found l.sets) (map plain_inst (drop l.inst-index l.insts))
    ≡ all_opened (set_found l.sets) (map plain_inst l.insts)
