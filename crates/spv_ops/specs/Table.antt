-- The table of types: what an opcode asks, where there is a line for it. [own: Y5]
use Rattle.std.specs.Prelude.{◌++◌, ℕ, List, [], ◌∷◌, Bool, false, nat_le, ◌&&◌, ◌||◌, if◌then◌else◌}
use Rattle.spv_conditions.specs.declared.asked.Asks.{Asks}
use Rattle.spv_conditions.specs.declared.asked.Asked.{Asked}
use Rattle.spv_conditions.specs.Asks.{conditions_in}
use Rattle.spv_ops.specs.declared.table.Places.{Places}
use Rattle.spv_ops.specs.declared.table.Places.TheVariants.{Free}
use Rattle.spv_ops.specs.declared.table.TheConstants.{TABLE, FURTHER, OBJECTS}

-- a line: its opcodes, each from one to another, where their value operands stand, and what is asked
abbrev pub Line : Type 0
Line = record { now : List (ℕ × ℕ) } × Places × record { now : List Asks }

abbrev pub is_among : List (ℕ × ℕ) → ℕ → Bool
is_among [] n = false
is_among (r ∷ rs) n = (nat_le r.0 n && nat_le n r.1) || is_among rs n

-- the first line that has the opcode; no line speaks of an opcode that is nowhere in the table
abbrev pub line_in : List Line → ℕ → Line
line_in [] n = (record { now = [] }, Free, record { now = [] })
line_in (l ∷ ls) n = if is_among l.0.now n then l else line_in ls n

-- the table of src/table.rt, with its further parts
unfoldable pub lines : List Line
lines = TABLE ++ (FURTHER ++ OBJECTS)

abbrev pub line_of : ℕ → Line
line_of n = line_in lines n

-- where the value operands stand; what is asked; the conditions of it, where there are m values [own: Y5]
abbrev pub places_of : ℕ → Places
places_of n = (line_of n).1

abbrev pub asks_of : ℕ → List Asks
asks_of n = (line_of n).2.now

abbrev pub conditions_of : ℕ → ℕ → List Asked
conditions_of n m = conditions_in (asks_of n) m
