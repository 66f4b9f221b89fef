use Rattle.std.proofs.Common.{◌≡◌, ◌-◌, length}
use Rattle.spv_flow.proofs.lemmas.walks.Telling.{AreSound}
use Rattle.spv_flow.proofs.walks.values.first_missing.Given as goal

abbrev pub invariant-loop-at : goal.invariant-loop-at
invariant-loop-at l = record {
  count : length l.buffers.numbers.items ≡ length l.code.insts.now;
  sound : AreSound l.code l.at;
}

abbrev pub decreases-loop-at : goal.decreases-loop-at
decreases-loop-at l = l.count - l.at
