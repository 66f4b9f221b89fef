use Rattle.std.proofs.Common.{◌<◌, ℕ}
use Rattle.spv_declarations.specs.inner.Sets.{HasBoth}
use Rattle.spv_declarations.proofs.shown.members.built_in_member.Given as goal

abbrev pub invariant-loop-k : goal.invariant-loop-k
invariant-loop-k l = (j : ℕ) → j < l.k → ¬ (HasBoth l.found.members l.t j)
