use Rattle.std.proofs.Common.{◌≡◌, ◌≤◌, ◌+◌, ◌*◌, length}
use Rattle.spv_annotate.specs.Notes.{room}
use Rattle.spv_annotate.proofs.short.room.Given as goal

abbrev pub invariant-loop-rest : goal.invariant-loop-rest
invariant-loop-rest l = record {
  all : l.size + room l.rest ≡ room l.text;
  few : l.size + 8 * length l.rest ≤ 8 * length l.text;
}

abbrev pub decreases-loop-rest : goal.decreases-loop-rest
decreases-loop-rest l = length l.rest
