-- What the readers of tokens answer. (Own.) (For the code alone.)
use Rattle.std.specs.Prelude.{◌≡◌, ◌<◌, ◌^◌, ◌++◌, ◌∷◌, [], ℕ, List, Option, Some, None, Bool}
use Rattle.std.specs.Prelude.{true, false, nat_eq, decimal, Result, Ok, Err}
use Rattle.std.specs.List.{slice_split}
use Rattle.spv_table.specs.Table.{Table, kind_of}
use Rattle.spv_table.specs.Lookups.{value_named}
use Rattle.spv_module.specs.declared.operand.Operand.{Operand}
use Rattle.spv_module.specs.Operand.{Plain}
use Rattle.spv_module.specs.Module.{plain_operand}
use Rattle.spv_module.specs.Shape.{Slot, Shape}
use Rattle.spv_module.specs.Spelling.{Takes, set_bits}
use Rattle.spv_inst.specs.Reading.{enumerants_at}
use Rattle.spv_inst.specs.inner.Written.{is_fit, HasText, operand_words}
use Rattle.spv_lines.specs.Digits.{is_number, hex_digit, hex_digits, IsLarge}
use Rattle.spv_lines.specs.Name.{IsNameOf, AreNamesOf, Names, NamesMask, mask_values, joined}
use Rattle.spv_lines.specs.Operand.{IsRead}
use Rattle.spv_lines.specs.Line.{AreWords}
use Rattle.spv_lines.specs.Refusal.{Place, place_of}
use Rattle.spv_lines.specs.declared.misread.Misread.{Misread}
use Rattle.spv_lines.specs.declared.misread.Misread.TheVariants.{IllFormed, TooLarge}

-- what a text is as a decimal number below a limit
abbrev pub IsBelow : ℕ → List ℕ → Result ℕ Misread → Type 0
IsBelow limit t (Ok x) = (x < limit) × (t ≡ decimal x)
IsBelow limit t (Err TooLarge) = IsLarge limit t
IsBelow limit t (Err IllFormed) = is_number t ≡ false

-- what a text is as a decimal number of 32 bits behind a mark
abbrev pub IsBehind : ℕ → List ℕ → Result ℕ Misread → Type 0
IsBehind mark t (Ok x) = (x < 2 ^ 32) × (t ≡ mark ∷ decimal x)
IsBehind mark t (Err TooLarge) = (ds : List ℕ) × (t ≡ mark ∷ ds) × IsLarge (2 ^ 32) ds
IsBehind mark t (Err IllFormed) = (ds : List ℕ) → t ≡ mark ∷ ds → is_number ds ≡ true → ⊥

-- the number that a hexadecimal digit in lower case stands for, or that an octet is none
abbrev pub IsDigit : ℕ → Option ℕ → Type 0
IsDigit b (Some d) = (d < 16) × (b ≡ hex_digit d)
IsDigit b None = (d : ℕ) → d < 16 → b ≡ hex_digit d → ⊥

-- the number that eight hexadecimal digits are, or that a text is none such
abbrev pub IsEight : List ℕ → Option ℕ → Type 0
IsEight t (Some x) = (x < 2 ^ 32) × (t ≡ hex_digits 8 x)
IsEight t None = (x : ℕ) → x < 2 ^ 32 → t ≡ hex_digits 8 x → ⊥

-- the value that a plain name looks up, or that a text is no such name
abbrev pub IsNamed : (List ℕ → Option ℕ) → List ℕ → Option ℕ → Type 0
IsNamed lookup t (Some x) = IsNameOf lookup x t
IsNamed lookup t None = (x : ℕ) → IsNameOf lookup x t → ⊥

-- the mask that plain names of its bits are, or that a text is none such
abbrev pub IsNamedMask : (List ℕ → Option ℕ) → List ℕ → Option ℕ → Type 0
IsNamedMask lookup t (Some x) = (ts : List (List ℕ)) × AreNamesOf lookup (mask_values x) ts × (t ≡ joined ts)
IsNamedMask lookup t None = (x : ℕ) → x < 2 ^ 32 → (ts : List (List ℕ)) → AreNamesOf lookup (mask_values x) ts
    → t ≡ joined ts → ⊥

-- what stands between the marks `|`
abbrev pub cells : List ℕ → List (List ℕ)
cells t = slice_split (λ b. nat_eq b 124) t

-- the cells that are left, if there are any
abbrev pub cells_left : Option (List ℕ) → List (List ℕ)
cells_left None = []
cells_left (Some t) = cells t

-- the mask, not 0, that plain names of its bits are, or that a text is none such
abbrev pub IsNamedBits : (List ℕ → Option ℕ) → List ℕ → Option ℕ → Type 0
IsNamedBits lookup t (Some x) = (0 < x) × AreNamesOf lookup (set_bits x) (cells t)
IsNamedBits lookup t None = (x : ℕ) → 0 < x → x < 2 ^ 32 → AreNamesOf lookup (set_bits x) (cells t) → ⊥

-- what stands for a value: a plain name of it, or `#N`
abbrev pub IsValueText : (List ℕ → Option ℕ) → List ℕ → Result ℕ Misread → Type 0
IsValueText lookup t (Ok x) = Names lookup x t
IsValueText lookup t (Err TooLarge) = (ds : List ℕ) × (t ≡ 35 ∷ ds) × IsLarge (2 ^ 32) ds
IsValueText lookup t (Err IllFormed) = ((x : ℕ) → x < 2 ^ 32 → Names lookup x t → ⊥)
    × ((ds : List ℕ) → t ≡ 35 ∷ ds → is_number ds ≡ true → ⊥)

-- what stands for a mask: plain names of its bits, that of 0, or `#N`
abbrev pub IsMaskText : (List ℕ → Option ℕ) → List ℕ → Result ℕ Misread → Type 0
IsMaskText lookup t (Ok x) = NamesMask lookup x t
IsMaskText lookup t (Err TooLarge) = (ds : List ℕ) × (t ≡ 35 ∷ ds) × IsLarge (2 ^ 32) ds
IsMaskText lookup t (Err IllFormed) = ((x : ℕ) → x < 2 ^ 32 → NamesMask lookup x t → ⊥)
    × ((ds : List ℕ) → t ≡ 35 ∷ ds → is_number ds ≡ true → ⊥)

-- the names of a kind's values
abbrev pub names_in : Table → ℕ → List ℕ → Option ℕ
names_in G k = value_named (enumerants_at (kind_of G k))

-- A token is the operand, for a kind of number `k` and a shape.
pub record IsTaken (G : Table) (hex : Bool) (k : ℕ) (sh : Shape) (t : List ℕ) (o : Plain) : Type 0 where
  pub fit : is_fit k sh o ≡ true
  pub text : HasText o
  pub small : AreWords (operand_words o)
  pub read : IsRead G hex o t

-- A token is a well-formed decimal number that is too large for the shape.
pub record IsOver (hex : Bool) (sh : Shape) (t : List ℕ) : Type 0 where
  pub place : Place
  pub digits : List ℕ
  pub placed : place_of hex sh ≡ Some place
  pub large : IsLarge place.limit digits
  pub all : t ≡ place.mark ++ digits

-- A token is nothing of the two.
pub record IsNone (G : Table) (hex : Bool) (k : ℕ) (sh : Shape) (t : List ℕ) : Type 0 where
  pub untaken : (o : Plain) (ws : List ℕ) (ss : List Slot) → Takes k sh o ws ss → AreWords ws → IsRead G hex o t
      → ⊥
  pub not_over : ¬ (IsOver hex sh t)

-- what a token is for a kind of number `k` and a shape
abbrev pub IsToken : Table → Bool → ℕ → Shape → List ℕ → Result Operand Misread → Type 0
IsToken G hex k sh t (Ok o) = IsTaken G hex k sh t (plain_operand o)
IsToken G hex k sh t (Err TooLarge) = IsOver hex sh t
IsToken G hex k sh t (Err IllFormed) = IsNone G hex k sh t
