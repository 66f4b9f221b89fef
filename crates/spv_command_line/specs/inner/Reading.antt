-- How the code reads numbers. (For the code alone.)
use Rattle.std.specs.Prelude.{ℕ, List, [], Option, Some, None}
use Rattle.spv_command_line.specs.Number.{parts_of}

-- the parts that are left, if there are any
abbrev pub parts_left : Option (List ℕ) → List (List ℕ)
parts_left None = []
parts_left (Some text) = parts_of text
