use Rattle.std.proofs.Common.{◌<◌, ℕ}
use Rattle.spv_module.specs.Module.{plain_inst}
use Rattle.spv_standard_evidence.specs.inner.Versions.{IsMaskAt}
use Rattle.spv_standard_evidence.proofs.versions.mask_place.Given as goal

abbrev pub invariant-loop-k : goal.invariant-loop-k
invariant-loop-k l = (j : ℕ) → j < l.k → ¬ (IsMaskAt (plain_inst l.inst).operands j)
