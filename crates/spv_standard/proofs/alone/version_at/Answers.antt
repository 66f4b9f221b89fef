use Rattle.std.proofs.lemmas.Bool.{iff_false}
use Rattle.spv_standard.proofs.Singles.{no_version_at, version_at}
use Rattle.spv_standard.proofs.alone.version_at.Goals.{else-is_asked-via-then-is_asked+else-is_late, else-is_asked-via-else-is_asked}
use Rattle.spv_standard.proofs.alone.version_at.Goals as goal

pub returns-then-is_late : goal.returns-then-is_late
returns-then-is_late c = λ G minor late quiet.
    version_at G minor c.args.definitions.now c.args.number ((c.is_late.ensures G minor late).0 c.if-is_late.true)

pub returns : goal.returns
returns c = λ G minor late quiet.
    no_version_at G minor c.args.definitions.now c.args.number (elim c.else-is_asked.branch [
      | else-is_asked-via-then-is_asked+else-is_late w ↦ iff_false (w.is_late.ensures G minor late) w.if-is_late.false
      | else-is_asked-via-else-is_asked w ↦ quiet w.if-is_asked.false
    ])
