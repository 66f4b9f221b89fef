use Rattle.std.proofs.Common.{◌≡◌, drop, map}
use Rattle.std.specs.List.{list_any}
use Rattle.spv_module.specs.Module.{plain_inst}
use Rattle.spv_annotate.specs.inner.Known.{is_naming}
use Rattle.spv_annotate.proofs.firsts.has_names.Given as goal

abbrev pub invariant-loop-inst : goal.invariant-loop-inst
invariant-loop-inst l =
    list_any is_naming (map plain_inst (drop l.inst-index l.insts)) ≡ list_any is_naming (map plain_inst l.insts)
