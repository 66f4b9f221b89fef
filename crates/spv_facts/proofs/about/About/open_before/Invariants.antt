use Rattle.std.proofs.Common.{◌≡◌, ◌-◌, drop}
use Rattle.spv_module.specs.Module.{plain_insts}
use Rattle.spv_facts.specs.Place.{open_before, open_from}
use Rattle.spv_facts.proofs.about.About.open_before.Given as goal

abbrev pub invariant-loop-at : goal.invariant-loop-at
invariant-loop-at l =
    open_from l.at l.before (drop l.at (plain_insts l.fn.self.«module».now)) (l.fn.inst - l.at)
    ≡ open_before (plain_insts l.fn.self.«module».now) l.fn.inst
