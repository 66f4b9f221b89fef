use Rattle.std.proofs.Common.{◌≡◌, length}
use Rattle.spv_flow.specs.walks.inner.Code.{insts_of}
use Rattle.spv_flow.specs.walks.inner.Starts.{AreStarts}
use Rattle.spv_flow.proofs.walks.divide.divide.Given as goal

abbrev pub invariant-loop-at : goal.invariant-loop-at
invariant-loop-at l = record {
  count : length l.numbers ≡ length l.code.insts.now;
  starts : AreStarts (insts_of l.code) l.function l.at l.starts.items l.numbers;
}
