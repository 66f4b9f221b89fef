use Rattle.spv_declarations.specs.inner.Shown.{AreBothBefore}
use Rattle.spv_declarations.proofs.shown.other.Both.before.Given as goal

abbrev pub invariant-loop-number : goal.invariant-loop-number
invariant-loop-number l = AreBothBefore l.definitions l.number l.both
