use Rattle.std.proofs.Common.{◌<◌, ℕ}
use Rattle.spv_module.specs.Module.{plain_inst}
use Rattle.spv_standard_evidence.specs.inner.Declarations.{IsIdAt}
use Rattle.spv_standard_evidence.proofs.declarations.id_behind.Given as goal

abbrev pub invariant-loop-k : goal.invariant-loop-k
invariant-loop-k l = (j : ℕ) → j < l.k → ¬ (IsIdAt (plain_inst l.inst).operands j)
