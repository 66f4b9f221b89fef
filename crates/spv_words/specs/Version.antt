-- Modules of another version that are read as modules of version 1.6.
use Rattle.std.specs.Prelude.{ℕ, List, [], ◌∷◌, ◌++◌, Bool, ◌&&◌, nat_eq, nat_le, slice_index, drop}
use Rattle.std.specs.Prelude.{if◌then◌else◌}
use Rattle.std.specs.List.{starts_with}
use Rattle.spv_words.specs.declared.words.Order.{Order}
use Rattle.spv_words.specs.declared.words.Order.TheVariants.{Little, Big}

-- The bytes that a module of version 1.minor begins with in an order: the magic number and the version. [2.3]
abbrev pub version_front : Order → ℕ → List ℕ
version_front Little minor = 3 ∷ 2 ∷ 35 ∷ 7 ∷ 0 ∷ minor ∷ 1 ∷ 0 ∷ []
version_front Big minor = 7 ∷ 35 ∷ 2 ∷ 3 ∷ 0 ∷ 1 ∷ minor ∷ 0 ∷ []

-- The byte at the place of the minor version number. [2.3]
abbrev pub minor_in : Order → List ℕ → ℕ
minor_in Little bytes = slice_index bytes 5
minor_in Big bytes = slice_index bytes 6

-- The bytes begin as a module of one of the versions 1.0 to 1.6 does in that order. [2.3]
abbrev pub has_version : Order → List ℕ → Bool
has_version o bytes =
    nat_le (minor_in o bytes) 6 && starts_with nat_eq bytes (version_front o (minor_in o bytes))

-- The bytes with version 1.6 in place of a version 1.0 to 1.6; any other bytes as they are. [own]
abbrev pub as_1_6 : List ℕ → List ℕ
as_1_6 bytes =
    if has_version Little bytes then version_front Little 6 ++ drop 8 bytes
    else (if has_version Big bytes then version_front Big 6 ++ drop 8 bytes else bytes)
