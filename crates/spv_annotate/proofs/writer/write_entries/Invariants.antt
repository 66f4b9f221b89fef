use Rattle.std.proofs.Common.{◌≡◌, drop, flat_map, true}
use Rattle.std.specs.List.{range_with_len}
use Rattle.spv_lines.specs.Text.{lines_of}
use Rattle.spv_module.specs.Module.{plain_insts}
use Rattle.spv_annotate.specs.Document.{entry}
use Rattle.spv_annotate.specs.Piece.{IsWritten}
use Rattle.spv_annotate.specs.inner.Standing.{IsStanding}
use Rattle.spv_annotate.specs.inner.Tame.{are_tame_lines}
use Rattle.spv_annotate.specs.inner.Task.{subject_of}
use denote.Shadow.{shadow}
use denote.Text.{Utf8}
use Rattle.spv_annotate.proofs.writer.write_entries.Given as goal

abbrev pub invariant-loop-at : goal.invariant-loop-at
invariant-loop-at g l = record {
  text : shadow (Utf8 l.rest);
  rest : lines_of l.rest ≡ drop l.at (lines_of l.text);
  tame : l.tame ≡ true → are_tame_lines (lines_of l.rest) ≡ true;
  standing : IsStanding (plain_insts l.task.module.now) l.at l.standing;
  written : IsWritten g.P.Pen.text g.P.Pen.writes
      (flat_map (entry (subject_of l.task (lines_of l.text))) (range_with_len 0 l.at)) l.fn.pen l.pen;
}
