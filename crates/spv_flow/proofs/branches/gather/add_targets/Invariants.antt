use Rattle.std.proofs.Common.{◌-◌, length}
use Rattle.spv_flow.proofs.lemmas.branches.Gathering.{IsAdding}
use Rattle.spv_flow.proofs.branches.gather.add_targets.Given as goal

abbrev pub invariant-loop-n : goal.invariant-loop-n
invariant-loop-n l = IsAdding l.code l.fn.edges l.edges l.at l.block l.n

abbrev pub decreases-loop-n : goal.decreases-loop-n
decreases-loop-n l = length l.operands - l.n
