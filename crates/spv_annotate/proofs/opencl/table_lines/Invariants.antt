use Rattle.std.proofs.Common.{◌≡◌, ◌++◌, length, map}
use Rattle.spv_lines.specs.Text.{lines_of}
use Rattle.spv_annotate.specs.Notes.{opencl_lines}
use denote.Shadow.{shadow}
use denote.Text.{Utf8}
use Rattle.spv_annotate.proofs.opencl.table_lines.Given as goal

abbrev pub decreases-loop-rest : goal.decreases-loop-rest
decreases-loop-rest l = length l.rest

abbrev pub invariant-loop-rest : goal.invariant-loop-rest
invariant-loop-rest l = record {
  text : shadow (Utf8 l.rest);
  lines : map (λ t. t.now) l.lines.items ++ lines_of l.rest ≡ opencl_lines;
}
