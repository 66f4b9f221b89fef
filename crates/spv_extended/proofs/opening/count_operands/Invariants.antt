use Rattle.std.proofs.Common.{◌≡◌, ◌≤◌, ◌+◌, drop, map}
use Rattle.spv_module.specs.Module.{plain_inst}
use Rattle.spv_extended.specs.inner.Parts.{operands_in}
use Rattle.spv_extended.proofs.opening.count_operands.Given as goal

abbrev pub invariant-loop-inst : goal.invariant-loop-inst
invariant-loop-inst l = record {
  counted : l.count + operands_in (map plain_inst (drop l.inst-index l.insts)) ≡ operands_in (map plain_inst l.insts);
  few : l.count ≤ 4294967295;
}
