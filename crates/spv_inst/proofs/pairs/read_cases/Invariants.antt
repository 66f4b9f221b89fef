use Rattle.std.proofs.Common.{◌≡◌, ◌≤◌, ◌+◌, ◌-◌, List, Some, length, take, drop, vec_len, vec_capacity}
use Rattle.spv_table.specs.Table.{Table, Item}
use Rattle.spv_module.specs.Operand.{Context, PlainInst}
use Rattle.spv_module.specs.Shape.{Slot, AsNumber, shape_of}
use Rattle.spv_module.specs.Width.{switch_width}
use Rattle.spv_inst.specs.Flat.{Due}
use Rattle.spv_inst.specs.inner.Pairs.{IsPair, context_at}
use Rattle.spv_inst.specs.inner.Sofar.{SofarAt}
use Rattle.spv_inst.proofs.pairs.read_cases.Given as goal

abbrev pub invariant-loop-at : goal.invariant-loop-at
invariant-loop-at l = record {
  from : l.first ≤ l.at;
  upto : l.at ≤ l.place.end;
  room : l.begin ≤ length l.operands.items;
  kept : take l.begin l.operands.items ≡ take l.begin l.fn.operands.items;
  few : length l.operands.items + l.first ≤ length l.fn.operands.items + l.at;
  width : (before : List PlainInst)
      → switch_width (context_at before l.place.opcode (drop l.begin l.fn.operands.items)) ≡ Some l.bits
      → switch_width (context_at before l.place.opcode (drop l.begin l.operands.items)) ≡ Some l.bits;
  spare : vec_len l.operands + (l.place.end - l.at) ≤ vec_capacity l.operands;
  sofar : (G : Table) (before : List PlainInst) (pattern : List Item) (a b : Slot) (ds : List Due) → IsPair G ds a b
      → ((c : Context) → c.opcode ≡ l.place.opcode → shape_of G c a ≡ AsNumber (switch_width c))
      → switch_width (context_at before l.place.opcode (drop l.begin l.fn.operands.items)) ≡ Some l.bits
      → SofarAt G before l.place.opcode pattern l.image l.place.first l.place.end
      (drop l.begin l.fn.operands.items) ds l.first
      → SofarAt G before l.place.opcode pattern l.image l.place.first l.place.end
      (drop l.begin l.operands.items) ds l.at;
}

abbrev pub decreases-loop-at : goal.decreases-loop-at
decreases-loop-at l = l.place.end - l.at
