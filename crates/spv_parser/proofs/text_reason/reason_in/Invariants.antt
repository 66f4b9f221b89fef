use Rattle.std.proofs.Common.{length}
use Rattle.spv_lines.specs.Text.{lines_of}
use Rattle.spv_parser.proofs.Gathered.{LinesSoFar}
use Rattle.spv_parser.proofs.Halting.{StopsSoFar}
use denote.Shadow.{shadow}
use denote.Text.{Utf8}
use Rattle.spv_parser.proofs.text_reason.reason_in.Given as goal

abbrev pub invariant-loop-rest : goal.invariant-loop-rest
invariant-loop-rest l =
    shadow (Utf8 l.rest) × LinesSoFar l.table (lines_of l.text) l.fn.draft l.draft l.definitions
    (lines_of l.rest) l.number × StopsSoFar l.table (lines_of l.text) l.draft l.definitions (lines_of l.rest) l.number

abbrev pub decreases-loop-rest : goal.decreases-loop-rest
decreases-loop-rest l = length l.rest
