use Rattle.std.proofs.Common.{length}
use Rattle.spv_lines.specs.Text.{lines_of}
use Rattle.spv_parser.specs.inner.Heading.{IsKnown}
use Rattle.spv_parser.specs.inner.Seen.{IsSeen}
use Rattle.spv_parser.proofs.Gathered.{LinesSoFar}
use denote.Shadow.{shadow}
use denote.Text.{Utf8}
use Rattle.spv_parser.proofs.assembled.assemble_lines.Given as goal

abbrev pub invariant-loop-last : goal.invariant-loop-last
invariant-loop-last l =
    shadow (Utf8 l.rest) × LinesSoFar l.table (lines_of l.text) l.fn.draft l.draft l.definitions
    (lines_of l.rest) l.number × IsKnown l.table l.last × IsSeen l.table l.seen

abbrev pub decreases-loop-last : goal.decreases-loop-last
decreases-loop-last l = length l.rest
