use Rattle.std.proofs.Common.{◌≡◌, drop, map}
use Rattle.std.specs.List.{list_any}
use Rattle.spv_module.specs.Module.{plain_inst}
use Rattle.spv_names.specs.Chosen.{is_function}
use Rattle.spv_names.proofs.chosen.has_function.Given as goal

abbrev pub invariant-loop-inst : goal.invariant-loop-inst
invariant-loop-inst l =
    list_any (is_function l.id) (map plain_inst (drop l.inst-index l.insts)) ≡ list_any (is_function l.id)
    (map plain_inst l.insts)
