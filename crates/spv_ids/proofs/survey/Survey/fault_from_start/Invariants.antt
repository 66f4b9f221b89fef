use Rattle.std.proofs.Common.{◌<◌, ◌≤◌, ◌-◌}
use Rattle.spv_ids.specs.inner.Known.{AreAnnounced, IsOpen}
use Rattle.spv_ids.specs.inner.Faulty.{AreClean}
use Rattle.spv_ids.specs.inner.Survey.{insts_of}
use Rattle.spv_ids.proofs.survey.Survey.fault_from_start.Given as goal

abbrev pub invariant-loop-passed : goal.invariant-loop-passed
invariant-loop-passed l = record {
  within : l.passed.to ≤ l.self.end;
  clean : AreClean l.self.bound (insts_of l.self) l.passed.to;
  announced : AreAnnounced (insts_of l.self) l.passed.to l.announced;
  is_open : l.passed.floor < 4294967295 → IsOpen (insts_of l.self) l.passed.to l.passed.floor;
}

abbrev pub decreases-loop-passed : goal.decreases-loop-passed
decreases-loop-passed l = l.self.end - l.passed.to
