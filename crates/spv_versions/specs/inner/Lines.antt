-- Lines of the table as the code reads them, and which of them are told to be missing. (For the code alone.)
use Rattle.std.specs.Prelude.{◌≡◌, ℕ, List, [], ◌∷◌, Option, Some, Bool, true, false, ◌||◌, map, slice_get}
use Rattle.std.specs.Prelude.{slice_index_or}
use Rattle.std.specs.Borrow.{Bor}
use Rattle.std.specs.Str.{bytes_eq}
use Rattle.spv_versions.specs.declared.table.Kind.{Kind}
use Rattle.spv_versions.specs.Table.{IsOf, Line, Text}

-- a line as the code reads it, and as definitions do
abbrev pub Read : Type 0
Read = Kind × ℕ × ℕ × Option ℕ × Bor (List (Bor (List ℕ)))

abbrev pub plain_name : Bor (List ℕ) → Text
plain_name name = record { now = name.now }

abbrev pub plain_line : Read → Line
plain_line l = (l.0, l.1, l.2, l.3, record { now = map plain_name l.4.now })

-- a name is one of some
abbrev pub names_have : List (Bor (List ℕ)) → List ℕ → Bool
names_have [] name = false
names_have (one ∷ names) name = bytes_eq one.now name || names_have names name

-- Line m of these is told to be missing, and is of that number of the kind; there is such a line.
abbrev pub IsListedAt : List Line → List Bool → Kind → ℕ → ℕ → Type 0
IsListedAt ls flags k n m =
    (l : Line) × (slice_get ls m ≡ Some l) × (slice_index_or flags m false ≡ true) × IsOf l k n

abbrev pub IsListed : List Line → List Bool → Kind → ℕ → Type 0
IsListed ls flags k n = (m : ℕ) × IsListedAt ls flags k n m
