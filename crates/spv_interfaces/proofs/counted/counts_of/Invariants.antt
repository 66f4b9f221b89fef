use Rattle.spv_interfaces.specs.inner.Counted.{AreCounts}
use Rattle.spv_interfaces.proofs.counted.counts_of.Given as goal

abbrev pub invariant-loop-k : goal.invariant-loop-k
invariant-loop-k l = AreCounts l.definitions l.entries l.counts.items
