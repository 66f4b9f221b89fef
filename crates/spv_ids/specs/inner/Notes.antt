-- Numbers that are kept of ids. (For the code alone.)
use Rattle.std.specs.Prelude.{ℕ, zero, suc, Option, Some, None, nat_lt, if◌then◌else◌, length, slice_index}
use Rattle.std.specs.Ordering.{nat_cmp}
use Rattle.std.specs.BTreeMap.{get}
use Rattle.spv_ids.specs.declared.notes.Notes.{Notes}
use Rattle.spv_ranks.specs.Rank.{at_rank}

-- what a place says: 0 nothing, else one more than the number
abbrev pub number_in : ℕ → Option ℕ
number_in zero = None
number_in (suc n) = Some n

-- what a place says, or where it says nothing another number
abbrev pub number_or : ℕ → Option ℕ → Option ℕ
number_or zero other = other
number_or (suc n) other = Some n

-- what is kept of an id past the list: what the place of its rank says, or where that says nothing what the map has
abbrev pub kept_far : Notes → ℕ → Option ℕ
kept_far notes x = number_or (at_rank 0 notes.ranked.items notes.ranks x) (get nat_cmp notes.far x)

-- what is kept of an id: what its place in the list says, or past the list what is kept there
abbrev pub kept : Notes → ℕ → Option ℕ
kept notes x = if nat_lt x (length notes.near.items) then number_in (slice_index notes.near.items x)
    else kept_far notes x
