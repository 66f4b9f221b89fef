-- The minor number of the version of a module.
use Rattle.std.specs.Prelude.{ℕ, List, Option, Some, None, option_map, slice_index, slice_set, if◌then◌else◌}
use Rattle.spv_words.specs.declared.words.Order.TheVariants.{Little, Big}
use Rattle.spv_words.specs.Version.{has_version}

-- A number at a place of a list, if there is such a place. [own]
abbrev pub put_at : Option ℕ → ℕ → List ℕ → List ℕ
put_at None n xs = xs
put_at (Some at) n xs = slice_set xs at n

-- The place of the minor version number in bytes that begin as a module of one of the versions 1.0 to 1.6 does. [2.3]
abbrev pub minor_place : List ℕ → Option ℕ
minor_place bytes = if has_version Little bytes then Some 5 else (if has_version Big bytes then Some 6 else None)

-- The minor version number of such bytes. [2.3]
abbrev pub minor_of : List ℕ → Option ℕ
minor_of bytes = option_map (slice_index bytes) (minor_place bytes)

-- Such bytes with another minor version number; any other bytes as they are. [own]
abbrev pub with_minor : ℕ → List ℕ → List ℕ
with_minor minor bytes = put_at (minor_place bytes) minor bytes
