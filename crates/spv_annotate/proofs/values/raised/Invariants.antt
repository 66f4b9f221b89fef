use Rattle.std.proofs.Common.{◌≡◌, ◌≤◌, ◌<◌, ◌+◌}
use Rattle.spv_annotate.specs.Values as specs
use Rattle.spv_annotate.proofs.values.raised.Given as goal

abbrev pub decreases-loop-left : goal.decreases-loop-left
decreases-loop-left l = l.left

abbrev pub invariant-loop-left : goal.invariant-loop-left
invariant-loop-left l = record {
  exponent : l.exponent ≡ 103 + l.left;
  few : l.left ≤ 10;
  small : l.rest < 2048;
  same : specs.raised l.left l.exponent l.rest ≡ specs.raised 10 113 l.fn.fraction;
}
