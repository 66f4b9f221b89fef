-- What the file of a command gave, as the code keeps it. (For the code alone.)
use Rattle.std.specs.Prelude.{◌≡◌, ℕ, List, Option, Some, None, Result, Ok, Err, Vec}
use Rattle.std.specs.Global.{Global}
use Rattle.spv_words.specs.Header.{IsFirstBroken}
use Rattle.spv_words.specs.declared.words.WordError.{WordError}
use Rattle.spv_words.specs.declared.words.WordError.TheVariants.{W1, W8, W9}
use Rattle.spv_commands.specs.declared.asked.Reads.{Reads}
use Rattle.spv_commands.specs.declared.asked.Reads.TheVariants.{Nothing, Module, Text}
use Rattle.spv_commands.specs.declared.trouble.Trouble.{Trouble}
use Rattle.spv_commands.specs.declared.trouble.Trouble.TheVariants.{File, Memory}

-- It is what a file of these bytes gives: all of them, or none of a module that is too long; and anything where nothing
-- is read.
abbrev pub IsContent : Reads → List ℕ → Option (Vec ℕ Global) → Type 0
IsContent Nothing bytes (Some v) = Unit {0}
IsContent Module bytes (Some v) = v.items ≡ bytes
IsContent Text bytes (Some v) = v.items ≡ bytes
IsContent Module bytes None = IsFirstBroken W8 bytes
IsContent _ bytes None = ⊥

-- what a reader comes to that was not read to its end
abbrev pub stopped_by : WordError → Result (Option (Vec ℕ Global)) Trouble
stopped_by W8 = Ok None
stopped_by W1 = Err File
stopped_by code = Err Memory

-- the code of a trouble of a stream
abbrev pub code_of : Trouble → WordError
code_of Memory = W9
code_of trouble = W1
