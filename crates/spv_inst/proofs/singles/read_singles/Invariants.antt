use Rattle.std.proofs.Common.{◌≡◌, ◌≤◌, ◌+◌, ◌-◌, List, length, take, drop, vec_len, vec_capacity}
use Rattle.spv_table.specs.Table.{Item}
use Rattle.spv_module.specs.Operand.{PlainInst}
use Rattle.spv_inst.specs.inner.Known.{Knows}
use Rattle.spv_inst.specs.inner.Pending.{due_first}
use Rattle.spv_inst.specs.inner.Sofar.{SofarAt}
use Rattle.spv_inst.proofs.singles.read_singles.Given as goal

abbrev pub invariant-loop-left : goal.invariant-loop-left
invariant-loop-left l = record {
  from : l.rest.at ≤ l.left.at;
  upto : l.left.at ≤ l.place.end;
  room : l.begin ≤ length l.operands.items;
  kept : take l.begin l.operands.items ≡ take l.begin l.fn.operands.items;
  few : length l.operands.items + l.rest.at ≤ length l.fn.operands.items + l.left.at;
  spare : vec_len l.operands + (l.place.end - l.left.at) ≤ vec_capacity l.operands;
  sofar : (before : List PlainInst) (pattern : List Item) → Knows l.scene.definitions.now before
      → SofarAt l.scene.table.now before l.place.opcode pattern l.scene.image.now l.place.first l.place.end
      (drop l.begin l.fn.operands.items) (due_first l.rest.kinds.now l.rest.items.left.now) l.rest.at
      → SofarAt l.scene.table.now before l.place.opcode pattern l.scene.image.now l.place.first l.place.end
      (drop l.begin l.operands.items) (due_first l.left.kinds.now l.left.items.left.now) l.left.at;
}

abbrev pub decreases-loop-left : goal.decreases-loop-left
decreases-loop-left l = l.place.end - l.left.at
