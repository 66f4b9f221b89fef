use Rattle.std.proofs.Common.{◌≡◌, ◌<◌, ℕ, Some}
use Rattle.std.specs.Prelude.{slice_get}
use Rattle.spv_module.specs.Module.{plain_inst}
use Rattle.spv_module.specs.Operand.{PlainInst}
use Rattle.spv_standard_evidence.specs.inner.Declarations.{AreNamesakes}
use Rattle.spv_standard_evidence.proofs.declarations.entry_evidence.Given as goal

abbrev pub invariant-loop-before : goal.invariant-loop-before
invariant-loop-before l = (m : ℕ) (j : PlainInst) → m < l.before → slice_get l.definitions m ≡ Some j
    → ¬ (AreNamesakes (plain_inst l.inst) j)
