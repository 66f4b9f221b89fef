-- Numbers of the command line. (Own.)
use Rattle.std.specs.Prelude.{◌≡◌, ◌<◌, ◌^◌, ℕ, List, [], Option, Some, None, true, nat_eq, length}
use Rattle.std.specs.List.{AllZip, list_all, slice_split}
use Rattle.spv_lines.specs.Digits.{is_digit, value}
use Rattle.spv_names.specs.declared.chosen.Chosen.{Chosen}
use Rattle.spv_names.specs.declared.chosen.Chosen.TheVariants.{Id, Name}

-- The text is one or more ASCII digits, and these are a number of 32 bits in decimal.
pub record IsNumber (text : List ℕ) (n : ℕ) : Type 0 where
  pub some : 0 < length text
  pub digits : list_all is_digit text ≡ true
  pub is_value : value text ≡ n
  pub fits : n < 2 ^ 32

-- what stands between the commas of a text
abbrev pub parts_of : List ℕ → List (List ℕ)
parts_of text = slice_split (λ b. nat_eq b 44) text

-- The text is the numbers in order, joined by commas.
abbrev pub AreNumbers : List ℕ → List ℕ → Type 0
AreNumbers text ns = AllZip IsNumber (parts_of text) ns

-- of an option that must be given
abbrev pub IsNumberOf : Option (List ℕ) → ℕ → Type 0
IsNumberOf None n = ⊥
IsNumberOf (Some text) n = IsNumber text n

-- The text chooses a function: by its id, where it is a number, and else by its name.
abbrev pub IsChoice : List ℕ → Chosen → Type 0
IsChoice text (Id n) = IsNumber text n
IsChoice text (Name name) = (name.now ≡ text) × ((n : ℕ) → ¬ (IsNumber text n))

-- the text of an option that must be given does
abbrev pub IsChoiceOf : Option (List ℕ) → Chosen → Type 0
IsChoiceOf None chosen = ⊥
IsChoiceOf (Some text) chosen = IsChoice text chosen

-- that of an option that may be given: without it there is none
abbrev pub IsChoiceIfAny : Option (List ℕ) → Option Chosen → Type 0
IsChoiceIfAny None None = Unit {0}
IsChoiceIfAny (Some text) (Some chosen) = IsChoice text chosen
IsChoiceIfAny _ _ = ⊥

-- the numbers of an option that may be given: without it there are none
abbrev pub AreNumbersOf : Option (List ℕ) → List ℕ → Type 0
AreNumbersOf None ns = ns ≡ []
AreNumbersOf (Some text) ns = AreNumbers text ns
