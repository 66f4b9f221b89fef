-- The table of OpenCL.std: what the instruction of a number asks. [OpenCL Extended Instruction Set Specification; own:
-- Y10]
use Rattle.std.specs.Prelude.{ℕ, List, [], ◌∷◌, Bool, false, nat_le, ◌&&◌, ◌||◌, if◌then◌else◌}
use Rattle.spv_std_types.specs.declared.condition.Condition.{Condition}
use Rattle.spv_std_types.specs.declared.table.TheConstants.{TABLE}

-- a line: numbers, each from one to another, and what is asked [own]
abbrev pub Line : Type 0
Line = record { now : List (ℕ × ℕ) } × record { now : List Condition }

abbrev pub is_within : ℕ × ℕ → ℕ → Bool
is_within r n = nat_le r.0 n && nat_le n r.1

abbrev pub is_among : List (ℕ × ℕ) → ℕ → Bool
is_among [] n = false
is_among (r ∷ rs) n = is_within r n || is_among rs n

-- what the first line asks that has the number; nothing where none has it [own]
abbrev pub conditions_in : List Line → ℕ → List Condition
conditions_in [] n = []
conditions_in (l ∷ ls) n = if is_among l.0.now n then l.1.now else conditions_in ls n

-- the table of src/table.rt [OpenCL Extended Instruction Set Specification; own: Y10]
unfoldable pub lines : List Line
lines = TABLE

abbrev pub conditions_of : ℕ → List Condition
conditions_of n = conditions_in lines n
