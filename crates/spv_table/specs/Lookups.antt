-- The look-ups by name: the first element that bears it. (Own.)
use Rattle.std.specs.Prelude.{ℕ, Bool, false, List, Option, Some, None, nat_eq, option_map, position}
use Rattle.std.specs.List.{find}
use Rattle.std.specs.Str.{bytes_eq}
use Rattle.spv_table.specs.declared.table.Entry.{Entry}
use Rattle.spv_table.specs.declared.table.Enumerant.{Enumerant}
use Rattle.spv_table.specs.Table.{Table}

-- the opcode of the first instruction of a name [own]
abbrev pub opcode_named : List (ℕ × Entry) → List ℕ → Option ℕ
opcode_named entries name = option_map (λ e. e.0) (find (λ e. bytes_eq name e.1.name) entries)

-- the value of the first enumerant of a name; the number of the kind of a name [own]
abbrev pub value_named : List Enumerant → List ℕ → Option ℕ
value_named es name = option_map (λ e. e.value) (find (λ e. bytes_eq name e.name) es)

abbrev pub number_named : Table → List ℕ → Option ℕ
number_named G name = position (λ s. bytes_eq name s.kind.name) G.kinds

-- whether a number that may be missing is n [own]
abbrev pub is_number : ℕ → Option ℕ → Bool
is_number n None = false
is_number n (Some m) = nat_eq m n
