use Rattle.std.proofs.Common.{◌≡◌, ◌≤◌, ◌+◌, ◌++◌, length, take, drop, map}
use Rattle.spv_module.specs.Module.{plain_inst, plain_operands}
use Rattle.spv_extended.specs.inner.Parts.{given, operands_in}
use Rattle.spv_extended.proofs.opening.give.Given as goal

abbrev pub invariant-loop-at : goal.invariant-loop-at
invariant-loop-at l = record {
  count : length l.insts.items ≡ length l.fn.insts.items;
  room : l.first + operands_in (map plain_inst (drop l.at l.insts.items)) ≤ length l.shared.value.items;
  handed : map plain_inst (take l.at l.insts.items) ++ given (plain_operands (drop l.first l.shared.value.items)) (map plain_inst (drop l.at l.insts.items)) ≡ given (plain_operands l.shared.value.items) (map plain_inst l.fn.insts.items);
}
