use Rattle.std.proofs.Common.{◌≡◌, ◌≤◌, map, take}
use Rattle.spv_module.specs.Module.{plain_inst}
use Rattle.spv_type_rules.specs.Function.{parameter_count}
use Rattle.spv_type_evidence.proofs.types.function.parameter_count.Given as goal

abbrev pub invariant-loop-inst : goal.invariant-loop-inst
invariant-loop-inst l = record {
  most : l.count ≤ l.inst-index;
  counted : l.count ≡ parameter_count (map plain_inst (take l.inst-index l.insts));
}
