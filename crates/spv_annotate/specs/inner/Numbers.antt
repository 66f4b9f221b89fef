-- Numbers that are kept of ids. (For the code alone.)
use Rattle.std.specs.Prelude.{ℕ, zero, suc, Option, Some, None, nat_lt, if◌then◌else◌, length, slice_index}
use Rattle.std.specs.Ordering.{nat_cmp}
use Rattle.std.specs.BTreeMap.{get}
use Rattle.spv_annotate.specs.declared.numbers.Numbers.{Numbers}

-- what a place says: 0 nothing, else one more than the number
abbrev pub number_in : ℕ → Option ℕ
number_in zero = None
number_in (suc n) = Some n

-- what is kept of an id: what its place in the list says, or past the list what the map has
abbrev pub kept : Numbers → ℕ → Option ℕ
kept numbers x = if nat_lt x (length numbers.near.items) then number_in (slice_index numbers.near.items x)
    else get nat_cmp numbers.far x
