use Rattle.std.proofs.Common.{◌≡◌, ◌≤◌, ◌+◌, ◌-◌, List, length, take, drop, vec_len, vec_capacity}
use Rattle.spv_table.specs.Table.{Table, Item}
use Rattle.spv_module.specs.Operand.{Context, PlainInst}
use Rattle.spv_module.specs.Shape.{Slot, AsId, shape_of}
use Rattle.spv_inst.specs.Flat.{Due}
use Rattle.spv_inst.specs.inner.Pairs.{IsPair}
use Rattle.spv_inst.specs.inner.Sofar.{SofarAt}
use Rattle.spv_inst.proofs.pairs.read_id_pairs.Given as goal

abbrev pub invariant-loop-at : goal.invariant-loop-at
invariant-loop-at l = record {
  from : l.first ≤ l.at;
  upto : l.at ≤ l.place.end;
  room : l.begin ≤ length l.operands.items;
  kept : take l.begin l.operands.items ≡ take l.begin l.fn.operands.items;
  few : length l.operands.items + l.first ≤ length l.fn.operands.items + l.at;
  spare : vec_len l.operands + (l.place.end - l.at) ≤ vec_capacity l.operands;
  sofar : (G : Table) (before : List PlainInst) (pattern : List Item) (a b : Slot) (ds : List Due) → IsPair G ds a b
      → ((c : Context) → shape_of G c a ≡ AsId)
      → SofarAt G before l.place.opcode pattern l.image l.place.first l.place.end
      (drop l.begin l.fn.operands.items) ds l.first
      → SofarAt G before l.place.opcode pattern l.image l.place.first l.place.end
      (drop l.begin l.operands.items) ds l.at;
}

abbrev pub decreases-loop-at : goal.decreases-loop-at
decreases-loop-at l = l.place.end - l.at
