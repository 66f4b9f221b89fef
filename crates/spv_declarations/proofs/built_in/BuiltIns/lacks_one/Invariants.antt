use Rattle.std.proofs.Common.{◌<◌, ℕ}
use Rattle.spv_declarations.specs.inner.Sets.{HasBoth}
use Rattle.spv_declarations.proofs.built_in.BuiltIns.lacks_one.Given as goal

abbrev pub invariant-loop-k : goal.invariant-loop-k
invariant-loop-k l = (j : ℕ) → j < l.k → HasBoth l.self.members l.t j
