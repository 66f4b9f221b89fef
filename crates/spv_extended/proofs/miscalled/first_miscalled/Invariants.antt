use Rattle.std.proofs.Common.{ℕ, ◌<◌, map}
use Rattle.spv_module.specs.Module.{plain_inst}
use Rattle.spv_extended.specs.Miscalled.{IsMiscalled}
use Rattle.spv_extended.proofs.miscalled.first_miscalled.Given as goal

abbrev pub invariant-loop-number : goal.invariant-loop-number
invariant-loop-number l = (k : ℕ) → k < l.number → ¬ (IsMiscalled (map plain_inst l.insts) k)
