-- A line that is put together in place, and the verdict that it is the text of. (Own.)
use Rattle.std.specs.Prelude.{ℕ, List, take, Result, Ok, Err}
use Rattle.spv_words.specs.declared.words.WordError.{WordError}
use Rattle.spv_words.specs.declared.words.WordError.TheVariants.{W1, W9}
use Rattle.spv_check.specs.declared.line.Line.{Line}
use Rattle.spv_check.specs.declared.verdict_line.Judgment.{Judgment}
use Rattle.spv_check.specs.declared.verdict_line.Judgment.TheVariants.{Valid, Refused, Broken}
use Rattle.spv_check.specs.Verdict.{fault_line, refused_line, valid_line}

-- the octets of the line so far
abbrev pub text_of : Line → List ℕ
text_of line = take line.len line.bytes

-- the line of a verdict
abbrev pub line_of : Judgment → List ℕ
line_of Valid = valid_line
line_of (Refused code) = refused_line code
line_of (Broken f) = fault_line f.rule f.inst f.word

-- a failed read and out of memory are errors, and all other codes verdicts
abbrev pub refusal_of : WordError → Result Judgment WordError
refusal_of W1 = Err W1
refusal_of W9 = Err W9
refusal_of code = Ok (Refused code)
