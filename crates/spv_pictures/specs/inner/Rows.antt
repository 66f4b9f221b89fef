-- Rows without where they lie in memory, and parts of a list of rows. (For the code alone.)
use Rattle.std.specs.Prelude.{◌+◌, ℕ, List, [], ◌∷◌, drop, map, take}
use Rattle.std.specs.List.{before_first, position_or_len}
use Rattle.spv_module.specs.Module.{plain_inst}
use Rattle.spv_module.specs.Operand.{PlainInst}
use Rattle.spv_pictures.specs.Blocks as blocks
use Rattle.spv_pictures.specs.Function.{ends_function}
use Rattle.spv_pictures.specs.declared.rows.Row.{Row}

-- a row
abbrev pub plain_row : Row → blocks.Row
plain_row r = record { number = r.number; inst = plain_inst r.inst.now; line = r.line.now }

-- rows
abbrev pub plain_rows : List Row → List blocks.Row
plain_rows rows = map plain_row rows

-- the part of a function that begins with its first row
abbrev pub first_part : List blocks.Row → List blocks.Row
first_part [] = []
first_part (r ∷ rows) = r ∷ before_first blocks.begins_block rows

-- the instructions of the function whose OpFunction is instruction n, and its rows
abbrev pub function_at : ℕ → List PlainInst → List PlainInst
function_at n is = take (1 + position_or_len (λ i. ends_function i.opcode) (drop (n + 1) is)) (drop n is)

abbrev pub rows_at : ℕ → List PlainInst → List (List ℕ) → List blocks.Row
rows_at n is lines = blocks.rows_from n (function_at n is) (drop n lines)
