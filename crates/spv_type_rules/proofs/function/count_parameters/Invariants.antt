use Rattle.std.proofs.Common.{◌≡◌, ◌≤◌, ◌+◌, map, drop}
use Rattle.spv_module.specs.Module.{plain_inst}
use Rattle.spv_type_rules.specs.inner.Function.{parameters_in}
use Rattle.spv_type_rules.proofs.function.count_parameters.Given as goal

abbrev pub invariant-loop-inst : goal.invariant-loop-inst
invariant-loop-inst l = record {
  most : l.count ≤ l.inst-index;
  counted : l.count + parameters_in (map plain_inst (drop l.inst-index l.insts)) ≡ parameters_in
      (map plain_inst l.insts);
}
