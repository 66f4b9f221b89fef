use Rattle.spv_std_types.specs.inner.Looking.{IsPassed}
use Rattle.spv_std_types.proofs.calls.first_miscalls.Given as goal

abbrev pub invariant-loop-number : goal.invariant-loop-number
invariant-loop-number l = IsPassed l.definitions l.number l.pass
