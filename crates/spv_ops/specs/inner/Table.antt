-- Lines that are found by a number. (For the code alone.)
use Rattle.std.specs.Prelude.{◌-◌, ◌&&◌, ℕ, List, [], ◌∷◌, Option, Some, None, slice_get, unwrap_or, nat_le}
use Rattle.std.specs.Prelude.{if◌then◌else◌}
use Rattle.std.specs.List.{AllByRecursion}
use Rattle.spv_module.specs.Operand.{PlainInst}
use Rattle.spv_conditions.specs.declared.asked.Asked.{Asked}
use Rattle.spv_conditions.specs.declared.asked.Asks.{Asks}
use Rattle.spv_conditions.specs.inner.Direct.{HoldsDirectly}
use Rattle.spv_ops.specs.declared.table.Entry.{Entry}
use Rattle.spv_ops.specs.declared.table.Found.{Found}
use Rattle.spv_ops.specs.declared.table.TheConstants.{NUMBERS}
use Rattle.spv_ops.specs.declared.table.Places.TheVariants.{Free}
use Rattle.spv_ops.specs.Table.{Line, line_of}

abbrev pub line : Entry → Line
line e = (record { now = e.opcodes.now }, e.places, record { now = e.asks.now })

-- where the number of the line of an opcode stands: the opcodes up to 403, 4450 to 4455, 5632 and 5633 in order; no
-- number stands at 412
abbrev pub numbered_at : ℕ → ℕ
numbered_at n = if nat_le n 403 then n
    else (if nat_le 4450 n && nat_le n 4455 then n - 4046
    else (if nat_le 5632 n && nat_le n 5633 then n - 5222 else 412))

abbrev pub or_free : Option Line → Line
or_free None = (record { now = [] }, Free, record { now = [] })
or_free (Some l) = l

-- the number of the line of an opcode by such a list, and by the code's; 255 where it has none
abbrev pub number_among : List ℕ → ℕ → ℕ
number_among ks n = unwrap_or (slice_get ks (numbered_at n)) 255

abbrev pub line_number : ℕ → ℕ
line_number n = number_among NUMBERS n

-- the first opcode of a line, or 0; that of the line of an opcode
abbrev pub first_from : List (ℕ × ℕ) → ℕ
first_from [] = 0
first_from (r ∷ rs) = r.0

abbrev pub first_of : ℕ → ℕ
first_of n = first_from (line_of n).0.now

-- what a line tells, if there is one, and what it asks
abbrev pub found_by : Option Line → Found
found_by l = record { first = first_from (or_free l).0.now; places = (or_free l).1 }

abbrev pub asked_by : Option Line → List Asks
asked_by l = (or_free l).2.now

-- conditions hold, other than that a type matches another
abbrev pub AllDirectly : List PlainInst → ℕ → PlainInst → Option ℕ → List ℕ → List Asked → Type 0
AllDirectly is n i r types asked = AllByRecursion (HoldsDirectly is n i r types) asked
