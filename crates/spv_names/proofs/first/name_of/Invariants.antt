use Rattle.std.proofs.Common.{◌≡◌, drop, map}
use Rattle.spv_module.specs.Module.{plain_inst}
use Rattle.spv_names.specs.Names.{name_of}
use Rattle.spv_names.proofs.first.name_of.Given as goal

abbrev pub invariant-loop-inst : goal.invariant-loop-inst
invariant-loop-inst l =
    name_of l.naming (map plain_inst l.insts) l.id ≡ name_of l.naming (map plain_inst (drop l.inst-index l.insts)) l.id
