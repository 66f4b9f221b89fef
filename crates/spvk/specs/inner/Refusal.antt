-- What bytes come to that gave no image. (For the code alone.)
use Rattle.std.specs.Prelude.{Result, Ok, Err}
use Rattle.spv_words.specs.declared.words.WordError.{WordError}
use Rattle.spv_words.specs.declared.words.WordError.TheVariants.{W1, W9}
use Rattle.spv_table.specs.declared.error.Memory.{Memory}
use Rattle.spv_check.specs.declared.verdict_line.Judgment.{Judgment}
use Rattle.spv_check.specs.declared.verdict_line.Judgment.TheVariants.{Refused}

-- a failed read, which does not come of bytes in memory, and out of memory are errors, and all other codes verdicts
abbrev pub refusal_of : WordError → Result Judgment Memory
refusal_of W1 = Err (record {})
refusal_of W9 = Err (record {})
refusal_of code = Ok (Refused code)
