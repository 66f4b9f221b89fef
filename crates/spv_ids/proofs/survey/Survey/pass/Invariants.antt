use Rattle.std.proofs.Common.{◌<◌}
use Rattle.spv_ids.specs.declared.notes.Notes.{Notes}
use Rattle.spv_ids.specs.inner.Known.{AreAnnounced, IsOpen}
use Rattle.spv_ids.specs.inner.Faulty.{AreClean}
use Rattle.spv_ids.specs.inner.Survey.{insts_of}
use Rattle.spv_ids.proofs.survey.Survey.pass.Given as goal

abbrev pub invariant-loop-n : goal.invariant-loop-n
invariant-loop-n l = record {
  clean : AreClean l.self.bound (insts_of l.self) l.n;
  announced : (a : Notes) → AreAnnounced (insts_of l.self) l.from a → AreAnnounced (insts_of l.self) l.n a;
  is_open : l.here < 4294967295 → IsOpen (insts_of l.self) l.n l.here;
}
