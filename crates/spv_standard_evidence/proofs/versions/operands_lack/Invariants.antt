use Rattle.std.proofs.Common.{◌≡◌, ◌<◌, ℕ, Some}
use Rattle.std.specs.Prelude.{slice_get}
use Rattle.spv_module.specs.Module.{plain_operands}
use Rattle.spv_module.specs.Operand.{Plain}
use Rattle.spv_versions.specs.inner.Told.{IsOperandHit}
use Rattle.spv_standard_evidence.proofs.versions.operands_lack.Given as goal

abbrev pub invariant-loop-k : goal.invariant-loop-k
invariant-loop-k l = (j : ℕ) (o : Plain) → j < l.k → slice_get (plain_operands l.operands) j ≡ Some o
    → ¬ (IsOperandHit l.missing.lines l.kinds.numbers o)
