use Rattle.std.proofs.Common.{◌≡◌, ℕ, drop, map}
use Rattle.spv_module.specs.Module.{plain_inst}
use Rattle.spv_extended.specs.Sets.{set_in}
use Rattle.spv_extended.specs.inner.Found.{set_found}
use Rattle.spv_extended.proofs.set.sets_of.Given as goal

abbrev pub invariant-loop-at : goal.invariant-loop-at
invariant-loop-at l = (x : ℕ) → set_found l.sets x ≡ set_in (map plain_inst (drop l.at l.insts)) x
