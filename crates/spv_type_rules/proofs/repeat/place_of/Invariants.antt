use Rattle.std.proofs.Common.{◌≤◌, ◌<◌, ℕ}
use Rattle.spv_module.specs.Module.{plain_inst}
use Rattle.spv_type_rules.specs.inner.Slots.{IsOtherAt}
use Rattle.spv_type_rules.proofs.repeat.place_of.Given as goal

abbrev pub invariant-loop-at : goal.invariant-loop-at
invariant-loop-at l = (q : ℕ) → l.first ≤ q → q < l.at → IsOtherAt l.slots (plain_inst l.inst) q
