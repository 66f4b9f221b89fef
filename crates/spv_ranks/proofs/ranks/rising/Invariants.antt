use Rattle.spv_ranks.proofs.Ranking.{AreBelow}
use Rattle.spv_ranks.proofs.ranks.rising.Given as goal

abbrev pub invariant-loop-id : goal.invariant-loop-id
invariant-loop-id l = AreBelow l.all.items l.above
