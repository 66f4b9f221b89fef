-- What the view of a module tells of its fault. (Own.)
use Rattle.std.specs.Prelude.{◌≡◌, ◌++◌, ℕ, List, Option, Some, None, option_map, string_bytes}
use Rattle.spv_check.specs.declared.verdict_line.Judgment.{Judgment}
use Rattle.spv_check.specs.declared.verdict_line.Judgment.TheVariants.{Broken}
use Rattle.spv_check.specs.Text.{line_of}
use Rattle.spv_explain.specs.declared.stream.Explanation.{Explanation}
use Rattle.spv_annotate.specs.declared.finding.Finding as annotate

-- the number of the instruction at which it is told, the line of the verdict with those that explain it, and the ids of
-- the blocks of the walk that shows it
abbrev pub Told : Type 0
Told = ℕ × (List ℕ × List ℕ)

-- what is told where the verdict is a fault
abbrev pub told_by : Judgment → List ℕ → List ℕ → Option Told
told_by (Broken f) lines walk = Some (f.inst, (line_of (Broken f) ++ lines, walk))
told_by _ lines walk = None

abbrev pub told_of : Explanation → List ℕ → Option Told
told_of e walk = told_by e.judgment (string_bytes e.lines) walk

-- the same of what the text, the page and the graph take
abbrev pub told_in : annotate.Finding → Told
told_in f = (f.inst, (f.lines.now, f.walk.now))

abbrev pub IsFindingOf : Explanation → List ℕ → Option annotate.Finding → Type 0
IsFindingOf e walk finding = option_map told_in finding ≡ told_of e walk
