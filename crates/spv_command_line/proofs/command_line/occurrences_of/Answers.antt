use Rattle.std.proofs.Common.{refl, arith}
use Rattle.spv_command_line.proofs.Asking.{no_word_more, word_more}
use Rattle.spv_command_line.proofs.command_line.occurrences_of.Goals as goal
use Rattle.spv_command_line.proofs.command_line.occurrences_of.Goals.{then-is_same, else-is_same}

pub loop-other-preserved : goal.loop-other-preserved
loop-other-preserved c = elim c.if-is_same.branch [
  | then-is_same w ↦ rw w.count-is (word_more c.args.word.now c.args.words.now c.loop-other.other-index _ _ c.loop-other.count (omega (arith, c.loop-other-test.true)) refl w.if-is_same.ensures c.loop-other.invariant)
  | else-is_same w ↦ rw w.count-is (no_word_more c.args.word.now c.args.words.now c.loop-other.other-index _ _ c.loop-other.count (omega (arith, c.loop-other-test.true)) refl w.if-is_same.ensures c.loop-other.invariant)
]
