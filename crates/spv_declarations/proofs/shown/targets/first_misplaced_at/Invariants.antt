use Rattle.std.proofs.Common.{◌<◌, ℕ}
use Rattle.spv_module.specs.Module.{plain_inst}
use Rattle.spv_declarations.specs.inner.Shown.{IsBadAt}
use Rattle.spv_declarations.proofs.shown.targets.first_misplaced_at.Given as goal

abbrev pub invariant-loop-k : goal.invariant-loop-k
invariant-loop-k l =
    (j d : ℕ) → 0 < j → j < l.k → ¬ (IsBadAt l.definitions (plain_inst l.inst).operands l.decorations d j)
