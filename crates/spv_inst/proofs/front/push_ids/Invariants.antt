use Rattle.std.proofs.Common.{◌≡◌, ◌++◌, ◌≤◌, ◌+◌, ◌-◌, vec_len, vec_capacity}
use Rattle.spv_inst.specs.inner.Front.{id_operands}
use Rattle.spv_inst.specs.inner.Reading.{between}
use Rattle.spv_inst.proofs.front.push_ids.Given as goal

abbrev pub invariant-loop-at : goal.invariant-loop-at
invariant-loop-at l = record {
  from : l.fn.first ≤ l.at;
  upto : l.at ≤ l.end;
  spare : vec_len l.operands + (l.end - l.at) ≤ vec_capacity l.operands;
  items : l.operands.items ++ id_operands (between l.image l.at l.end) ≡ l.fn.operands.items
      ++ id_operands (between l.image l.fn.first l.end);
}

abbrev pub decreases-loop-at : goal.decreases-loop-at
decreases-loop-at l = l.end - l.at
