-- Names of instructions, values and masks, and `#N` where there is none. (Own.)
use Rattle.std.specs.Prelude.{◌≡◌, ◌-◌, ◌/◌, ◌%◌, ◌^◌, ℕ, List, [], ◌∷◌, Option, Some}
use Rattle.std.specs.Prelude.{None, Bool, true, false, nat_eq, nat_le, ◌&&◌, ◌||◌, if◌then◌else◌}
use Rattle.std.specs.Prelude.{option_map, option_and_then, unwrap_or, decimal}
use Rattle.std.specs.List.{list_all, filter, join_with_byte}
use Rattle.spv_table.specs.declared.table.Enumerant.{Enumerant}
use Rattle.spv_table.specs.Table.{enumerant_of}
use Rattle.spv_table.specs.Lookups.{value_named, is_number}
use Rattle.spv_module.specs.Spelling.{bits_from, set_bits}

-- an ASCII letter, a digit or `_` [own]
abbrev pub is_name_octet : ℕ → Bool
is_name_octet b =
    (nat_le 48 b && nat_le b 57) || ((nat_le 65 b && nat_le b 90) || ((nat_le 97 b && nat_le b 122) || nat_eq b 95))

-- whether a name is a plain name of the number [own]
abbrev pub is_plain : List ℕ → Bool
is_plain [] = false
is_plain (b ∷ later) = list_all is_name_octet (b ∷ later)

-- A text is a plain name of the number: made of such octets, and looks up the number. [own]
pub record IsNameOf (lookup : List ℕ → Option ℕ) (x : ℕ) (t : List ℕ) : Type 0 where
  pub plain : is_plain t ≡ true
  pub found : lookup t ≡ Some x

-- `#N` [own]
abbrev pub by_number : ℕ → List ℕ
by_number x = 35 ∷ decimal x

-- A text that is read as the number: a plain name of it, or `#N`. [own]
pub data Names (lookup : List ℕ → Option ℕ) (x : ℕ) : List ℕ → Type 0 where
  named : (t : List ℕ) → IsNameOf lookup x t → Names lookup x t
  numbered : Names lookup x (by_number x)

-- the values whose names a mask shows: those of its set bits, the smaller first, or 0 [own]
abbrev pub mask_values : ℕ → List ℕ
mask_values x = if nat_eq x 0 then 0 ∷ [] else set_bits x

-- The texts are plain names of the numbers, in order. [own]
abbrev pub AreNamesOf : (List ℕ → Option ℕ) → List ℕ → List (List ℕ) → Type 0
AreNamesOf lookup [] [] = Unit {0}
AreNamesOf lookup (x ∷ xs) (t ∷ ts) = IsNameOf lookup x t × AreNamesOf lookup xs ts
AreNamesOf lookup _ _ = ⊥

-- names joined by `|` [own]
abbrev pub joined : List (List ℕ) → List ℕ
joined ts = join_with_byte 124 ts

-- A text that is read as the mask: plain names of its bits joined by `|`, that of 0, or `#N`. [own]
pub data NamesMask (lookup : List ℕ → Option ℕ) (x : ℕ) : List ℕ → Type 0 where
  named : (ts : List (List ℕ)) → AreNamesOf lookup (mask_values x) ts → NamesMask lookup x (joined ts)
  numbered : NamesMask lookup x (by_number x)

-- the name, if it is a plain name of the number [own]
abbrev pub if_plain : (List ℕ → Option ℕ) → ℕ → List ℕ → Option (List ℕ)
if_plain lookup x t = if is_plain t && is_number x (lookup t) then Some t else None

-- the name that the first enumerant with the value bears, if it is a plain name of the value [own]
abbrev pub first_name : List Enumerant → ℕ → Option (List ℕ)
first_name es x = option_and_then (λ e. if_plain (value_named es) x e.name) (enumerant_of es x)

-- these names of all the values, if each has one [own]
abbrev pub first_names : List Enumerant → List ℕ → Option (List (List ℕ))
first_names es [] = Some []
first_names es (x ∷ xs) = option_and_then (λ t. option_map (λ ts. t ∷ ts) (first_names es xs)) (first_name es x)

-- what is shown of a value, and of a mask [own]
abbrev pub shown_value : List Enumerant → ℕ → List ℕ
shown_value es x = unwrap_or (first_name es x) (by_number x)

-- what is shown of a mask [own]
abbrev pub shown_mask : List Enumerant → ℕ → List ℕ
shown_mask es x = unwrap_or (option_map joined (first_names es (mask_values x))) (by_number x)

-- the names of a mask's set bits from a position up, if each has one
unfoldable pub names_from : List Enumerant → ℕ → ℕ → Option (List (List ℕ))
names_from es mask position =
    first_names es (filter (λ b. nat_eq (mask / b % 2) 1) (bits_from (32 - position) (2 ^ position)))
