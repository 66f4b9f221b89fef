use Rattle.std.proofs.Common.{◌≡◌, ◌≤◌, ◌-◌, drop, length}
use Rattle.spv_module.specs.Module.{plain_insts}
use Rattle.spv_facts.specs.Definition.{definition_from}
use Rattle.spv_facts.proofs.about.About.definition_of.Given as goal

abbrev pub invariant-loop-inst : goal.invariant-loop-inst
invariant-loop-inst l = record {
  within : l.at ≤ length (plain_insts l.fn.self.«module».now);
  same : definition_from l.fn.id l.at (drop l.at (plain_insts l.fn.self.«module».now))
      ≡ definition_from l.fn.id 0 (plain_insts l.fn.self.«module».now);
}

abbrev pub decreases-loop-inst : goal.decreases-loop-inst
decreases-loop-inst l = length (plain_insts l.fn.self.«module».now) - l.at
