use Rattle.std.proofs.Common.{◌≡◌, ◌≤◌, ◌-◌, drop, flat_map, take}
use Rattle.spv_lines.specs.Text.{lines_of}
use Rattle.spv_annotate.specs.Document.{header_piece}
use Rattle.spv_annotate.specs.Piece.{IsWritten}
use denote.Shadow.{shadow}
use denote.Text.{Utf8}
use Rattle.spv_annotate.proofs.writer.write_header.Given as goal

abbrev pub decreases-loop-done : goal.decreases-loop-done
decreases-loop-done g l = l.count - l.done

abbrev pub invariant-loop-done : goal.invariant-loop-done
invariant-loop-done g l = record {
  text : shadow (Utf8 l.rest);
  within : l.done ≤ l.count;
  rest : lines_of l.rest ≡ drop l.done (lines_of l.text);
  written : IsWritten g.P.Pen.text g.P.Pen.writes
      (flat_map header_piece (take l.done (lines_of l.text))) l.fn.pen l.pen;
}
