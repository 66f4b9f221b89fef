use Rattle.std.proofs.Common.{◌≡◌, ◌≤◌, ◌<◌, ℕ, None, drop, get_or, length}
use Rattle.spv_module.specs.Module.{plain_insts}
use Rattle.spv_facts.specs.Definition.{definition_from}
use Rattle.spv_facts.proofs.about.About.definitions.Given as goal

abbrev pub invariant-loop-at : goal.invariant-loop-at
invariant-loop-at l = record {
  room : length l.found.items ≡ l.fn.room;
  within : l.at ≤ length (plain_insts l.fn.self.«module».now);
  found : (x : ℕ) → x < l.fn.room
      → get_or l.found.items x None ≡ definition_from x l.at (drop l.at (plain_insts l.fn.self.«module».now));
}

abbrev pub decreases-loop-at : goal.decreases-loop-at
decreases-loop-at l = l.at
