-- Places of entries by their opcodes. (For the code alone.)
use Rattle.std.specs.Prelude.{◌≡◌, ℕ, List, slice_get, slice_index_or}
use Rattle.spv_table.specs.declared.table.Entry.{Entry}
use Rattle.spv_table.specs.Table.{first_with}

-- for each opcode the place of the first entry that has it; of none, and past the end, there is no such place
abbrev pub ArePlacesOf : List ℕ → List (ℕ × Entry) → Type 0
ArePlacesOf places entries =
    (n : ℕ) → slice_get entries (slice_index_or places n 4294967295) ≡ first_with (λ e. e.0) n entries
