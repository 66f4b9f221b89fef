use Rattle.std.proofs.Common.{◌<◌, ℕ}
use Rattle.spv_declarations.specs.Given.{At, Gives}
use Rattle.spv_declarations.proofs.shown.targets.giving_inst.Given as goal

abbrev pub invariant-loop-number : goal.invariant-loop-number
invariant-loop-number l = (k : ℕ) → k < l.number → ¬ (At l.definitions (λ j. Gives l.decoration j l.group) k)
