use Rattle.std.proofs.Common.{◌-◌}
use Rattle.spv_interfaces.specs.inner.Early.{AreBetween}
use Rattle.spv_interfaces.proofs.used.past_variables.Given as goal

abbrev pub decreases-loop-end : goal.decreases-loop-end
decreases-loop-end l = l.end - l.first

abbrev pub invariant-loop-end : goal.invariant-loop-end
invariant-loop-end l = AreBetween l.definitions l.first l.end
