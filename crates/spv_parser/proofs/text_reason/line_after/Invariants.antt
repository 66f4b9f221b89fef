use Rattle.std.proofs.Common.{◌≡◌, length}
use Rattle.std.specs.Prelude.{slice_get}
use Rattle.spv_lines.specs.Text.{lines_of}
use denote.Shadow.{shadow}
use denote.Text.{Utf8}
use Rattle.spv_parser.proofs.text_reason.line_after.Given as goal

abbrev pub invariant-loop-rest : goal.invariant-loop-rest
invariant-loop-rest l =
    shadow (Utf8 l.rest) × (slice_get (lines_of l.text) l.count ≡ slice_get (lines_of l.rest) l.left)

abbrev pub decreases-loop-rest : goal.decreases-loop-rest
decreases-loop-rest l = length l.rest
