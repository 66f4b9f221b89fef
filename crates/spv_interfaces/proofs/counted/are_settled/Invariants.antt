use Rattle.spv_interfaces.proofs.Counting.{Settled}
use Rattle.spv_interfaces.proofs.counted.are_settled.Given as goal

abbrev pub invariant-loop-number : goal.invariant-loop-number
invariant-loop-number l = Settled l.minor l.definitions l.counts l.all l.number
