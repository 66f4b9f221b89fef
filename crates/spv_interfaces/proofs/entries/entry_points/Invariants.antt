use Rattle.spv_interfaces.specs.inner.Entries.{AreSound}
use Rattle.spv_interfaces.proofs.entries.entry_points.Given as goal

abbrev pub invariant-loop-number : goal.invariant-loop-number
invariant-loop-number l = AreSound l.minor l.definitions l.number l.sound.items
