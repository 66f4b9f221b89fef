use Rattle.std.proofs.Common.{◌≡◌, ◌++◌, List, flat_map, length}
use Rattle.spv_lines.specs.Text.{lines_of}
use Rattle.spv_annotate.specs.Document.{mark_piece}
use Rattle.spv_annotate.specs.Piece.{IsWritten, PlainPiece}
use denote.Shadow.{shadow}
use denote.Text.{Utf8}
use Rattle.spv_annotate.proofs.writer.write_evidence.Given as goal

abbrev pub decreases-loop-rest : goal.decreases-loop-rest
decreases-loop-rest g l = length l.rest

abbrev pub invariant-loop-rest : goal.invariant-loop-rest
invariant-loop-rest g l = record {
  text : shadow (Utf8 l.rest);
  done : List PlainPiece;
  written : IsWritten g.P.Pen.text g.P.Pen.writes done l.fn.pen l.pen;
  left : done ++ flat_map mark_piece (lines_of l.rest) ≡ flat_map mark_piece (lines_of l.fn.lines);
}
