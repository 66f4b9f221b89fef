use Rattle.spv_declarations.specs.inner.Said.{NamesGroup}
use Rattle.spv_declarations.specs.inner.Sets.{Gathers}
use Rattle.spv_declarations.proofs.said.groups.Given as goal

abbrev pub invariant-loop-number : goal.invariant-loop-number
invariant-loop-number l = Gathers l.number l.definitions NamesGroup l.groups
