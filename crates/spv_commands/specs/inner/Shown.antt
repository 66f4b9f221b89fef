-- What is shown, as the code keeps it. (For the code alone.)
use Rattle.std.specs.Prelude.{ℕ, List, Bool, true, false, Result, Ok, Err}
use Rattle.spv_module.specs.declared.fault.Stop.{Stop}
use Rattle.spv_module.specs.declared.fault.Stop.TheVariants.{Fault, Memory}
use Rattle.spv_check.specs.declared.verdict_line.Judgment.TheVariants.{Broken}
use Rattle.spv_commands.specs.declared.showing.Shown.{Shown}
use Rattle.spv_commands.specs.declared.showing.Shown.TheVariants.{Text, Line}
use Rattle.spv_commands.specs.declared.trouble.Trouble.{Trouble}
use Rattle.spv_commands.specs.declared.trouble.Trouble.TheVariants as trouble
use Rattle.spv_check.specs.Text.{line_of}

-- the octets that are written
abbrev pub output_of : Shown → List ℕ
output_of (Text t) = t.items
output_of (Line v) = line_of v

-- is it the text of a module
abbrev pub is_text : Shown → Bool
is_text (Text t) = true
is_text (Line v) = false

-- the line of a fault is shown, and out of memory is an error
abbrev pub shown_stop : Stop → Result Shown Trouble
shown_stop (Fault f) = Ok (Line (Broken f))
shown_stop Memory = Err trouble.Memory
