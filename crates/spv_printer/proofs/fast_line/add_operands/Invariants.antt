use Rattle.std.proofs.Common.{◌≤◌, ◌-◌}
use Rattle.spv_inst.specs.inner.Pending.{due_first}
use Rattle.spv_printer.specs.inner.Fast.{AreDraftedSoFar}
use Rattle.spv_printer.proofs.fast_line.add_operands.Given as goal

abbrev pub invariant-loop-at : goal.invariant-loop-at
invariant-loop-at l = record {
  from : l.fn.first ≤ l.at;
  upto : l.at ≤ l.end;
  added : AreDraftedSoFar l.table l.printer.definitions l.image l.fn.pattern l.fn.first l.at l.end
      (due_first l.kinds l.items.left.now) l.draft l.buffer;
}

abbrev pub decreases-loop-at : goal.decreases-loop-at
decreases-loop-at l = l.end - l.at
