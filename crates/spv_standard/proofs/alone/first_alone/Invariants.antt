use Rattle.std.proofs.Common.{ℕ}
use Rattle.spv_versions.specs.inner.Late.{IsLateBy}
use Rattle.spv_limits.specs.inner.Counting.{IsUpTo}
use Rattle.spv_standard.specs.inner.Asked.{AreNoted}
use Rattle.spv_standard.proofs.Singles.{NoneBelow}
use Rattle.spv_standard.proofs.alone.first_alone.Given as goal

abbrev pub invariant-loop-number : goal.invariant-loop-number
invariant-loop-number l =
    ((minor : ℕ) → IsLateBy l.capabilities.table minor l.definitions l.late
    → NoneBelow l.capabilities.table minor l.definitions l.number
    × AreNoted l.capabilities.table minor l.definitions l.late l.notes.notes)
    × IsUpTo l.definitions l.number l.counts
