use Rattle.std.proofs.Common.{◌≡◌, ◌≤◌, ◌-◌, length}
use Rattle.spv_annotate.specs.inner.Draft.{IsFront, most_ended}
use Rattle.spv_annotate.specs.inner.Numbers.{kept}
use Rattle.spv_annotate.proofs.drafted.add_front.Given as goal

abbrev pub invariant-loop-front : goal.invariant-loop-front
invariant-loop-front l = record {
  size : length l.buffer ≡ length l.fn.buffer;
  high : l.front.at ≤ most_ended;
  front : IsFront (kept l.definitions) l.line l.front.read l.at l.front.at l.fn.buffer l.buffer;
}

abbrev pub decreases-loop-front : goal.decreases-loop-front
decreases-loop-front l = length l.line - l.front.read
