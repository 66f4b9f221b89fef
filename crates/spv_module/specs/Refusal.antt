-- What refuses the words of an instruction, and where.
use Rattle.std.specs.Prelude.{◌≡◌, ◌≢◌, ◌<◌, ◌+◌, ℕ, List, [], ◌∷◌, ◌++◌, Some, None}
use Rattle.std.specs.Prelude.{length, IsUtf8}
use Rattle.std.specs.List.{AllByRecursion}
use Rattle.spv_table.specs.declared.table.Enumerant.{Enumerant}
use Rattle.spv_table.specs.Table.{Table, Item, One, Maybe, Many}
use Rattle.spv_module.specs.declared.fault.Rule.{Rule}
use Rattle.spv_module.specs.declared.fault.Rule.TheVariants.{I4, I5, I6, I7, I8, I9, I10, I11, I12}
use Rattle.spv_module.specs.Operand.{Plain, Context, and_then, after}
use Rattle.spv_module.specs.Shape.{Slot, alone, Shape, AsNumber, AsText, AsValue, AsMask, AsParts, AsNothing, shape_of}
use Rattle.spv_module.specs.Spelling.{octets_of, HoldsText, AreZeros, parameters_of, mask_parameters, Takes, Spells}

-- a shape that takes one word at least [own]
abbrev pub IsLeaf : Shape → Type 0
IsLeaf (AsParts ss) = ⊥
IsLeaf _ = Unit {0}

-- A shape refuses the words left of the instruction, with a code, at a word counted from the first of them. [own]
pub data ShapeRefuses : Shape → List ℕ → Rule → ℕ → Type 0 where
  -- no word is left, or only half of a wide number
  missing : (sh : Shape) → IsLeaf sh → ShapeRefuses sh [] I4 0
  half : (w x : ℕ) → 32 < w → ShapeRefuses (AsNumber (Some w)) (x ∷ []) I4 1
  -- no such enumerant
  unknown_value : (es : List Enumerant) (x : ℕ) (us : List ℕ) → parameters_of es x ≡ None
      → ShapeRefuses (AsValue es) (x ∷ us) I6 0
  -- a set bit without enumerant
  unknown_bit : (es : List Enumerant) (x : ℕ) (us : List ℕ) → mask_parameters es x ≡ None
      → ShapeRefuses (AsMask es) (x ∷ us) I7 0
  -- no zero octet
  endless : (u : ℕ) (us : List ℕ) → AllByRecursion (λ b. b ≢ 0) (octets_of (u ∷ us)) → ShapeRefuses AsText (u ∷ us) I8 0
  -- octets other than zero after the zero octet: at the string's last word
  padded : (t ws padding us : List ℕ) (n : ℕ) → HoldsText ws t padding → ¬ (AreZeros padding)
      → length ws ≡ n + 1 → ShapeRefuses AsText (ws ++ us) I9 n
  -- no UTF-8
  no_text : (t ws padding us : List ℕ) → HoldsText ws t padding → AreZeros padding → ¬ (IsUtf8 t)
      → ShapeRefuses AsText (ws ++ us) I10 0
  -- a number of unknown width
  no_width : (x : ℕ) (us : List ℕ) → ShapeRefuses (AsNumber None) (x ∷ us) I11 0
  -- a kind that nothing spells
  no_form : (x : ℕ) (us : List ℕ) → ShapeRefuses AsNothing (x ∷ us) I12 0

mutual
  -- A front of a kind's spelling begins the words left of the instruction, and what is due after it refuses them. [own]
  pub data Stops (G : Table) : Context → Slot → List ℕ → Rule → ℕ → Type 0 where
    here : (c : Context) (s : Slot) (us : List ℕ) (code : Rule) (n : ℕ) → ShapeRefuses (shape_of G c s) us code n
        → Stops G c s us code n
    in_parameters : (c : Context) (s : Slot) (o : Plain) (ws : List ℕ) (ss : List Slot) (us : List ℕ) (code : Rule)
        (n : ℕ) → Takes s.kind (shape_of G c s) o ws ss → StopsAll G (and_then c o) ss us code n
        → Stops G c s (ws ++ us) code (length ws + n)
    in_parts : (c : Context) (s : Slot) (ss : List Slot) (us : List ℕ) (code : Rule) (n : ℕ)
        → shape_of G c s ≡ AsParts ss → StopsAll G c ss us code n → Stops G c s us code n

  -- The same for kinds in order: the first ones are spelled, and the next stops.
  pub data StopsAll (G : Table) : Context → List Slot → List ℕ → Rule → ℕ → Type 0 where
    first : (c : Context) (s : Slot) (ss : List Slot) (us : List ℕ) (code : Rule) (n : ℕ) → Stops G c s us code n
        → StopsAll G c (s ∷ ss) us code n
    next : (c : Context) (s : Slot) (ss : List Slot) (os : List Plain) (us vs : List ℕ) (code : Rule) (n : ℕ)
        → Spells G c s os us → StopsAll G (after c os) ss vs code n
        → StopsAll G c (s ∷ ss) (us ++ vs) code (length us + n)

-- A front of the pattern begins the further words, and what is due after it refuses the rest, or none is due and words
-- are left. [own]
pub data Misfit (G : Table) : Context → List Item → List ℕ → Rule → ℕ → Type 0 where
  left : (c : Context) (u : ℕ) (us : List ℕ) → Misfit G c [] (u ∷ us) I5 0
  one : (c : Context) (k : ℕ) (is : List Item) (us : List ℕ) (code : Rule) (n : ℕ)
      → Stops G c (alone k) us code n → Misfit G c (One k ∷ is) us code n
  after_one : (c : Context) (k : ℕ) (is : List Item) (os : List Plain) (us vs : List ℕ) (code : Rule) (n : ℕ)
      → Spells G c (alone k) os us → Misfit G (after c os) is vs code n
      → Misfit G c (One k ∷ is) (us ++ vs) code (length us + n)
  no_maybe : (c : Context) (k : ℕ) (is : List Item) (code : Rule) (n : ℕ)
      → Misfit G c is [] code n → Misfit G c (Maybe k ∷ is) [] code n
  maybe : (c : Context) (k : ℕ) (is : List Item) (u : ℕ) (us : List ℕ) (code : Rule) (n : ℕ)
      → Stops G c (alone k) (u ∷ us) code n → Misfit G c (Maybe k ∷ is) (u ∷ us) code n
  after_maybe : (c : Context) (k : ℕ) (is : List Item) (os : List Plain) (us vs : List ℕ) (code : Rule) (n : ℕ)
      → us ++ vs ≢ [] → Spells G c (alone k) os us → Misfit G (after c os) is vs code n
      → Misfit G c (Maybe k ∷ is) (us ++ vs) code (length us + n)
  no_many : (c : Context) (k : ℕ) (is : List Item) (code : Rule) (n : ℕ)
      → Misfit G c is [] code n → Misfit G c (Many k ∷ is) [] code n
  many : (c : Context) (k : ℕ) (is : List Item) (u : ℕ) (us : List ℕ) (code : Rule) (n : ℕ)
      → Stops G c (alone k) (u ∷ us) code n → Misfit G c (Many k ∷ is) (u ∷ us) code n
  after_many : (c : Context) (k : ℕ) (is : List Item) (os : List Plain) (us vs : List ℕ) (code : Rule) (n : ℕ)
      → us ++ vs ≢ [] → Spells G c (alone k) os us → Misfit G (after c os) (Many k ∷ is) vs code n
      → Misfit G c (Many k ∷ is) (us ++ vs) code (length us + n)

-- A shape takes words at the front of those left of the instruction, or refuses these.
pub data Meets (k : ℕ) (sh : Shape) : List ℕ → Type 0 where
  taken : (o : Plain) (ws : List ℕ) (ss : List Slot) (us : List ℕ) → Takes k sh o ws ss → Meets k sh (ws ++ us)
  refused : (us : List ℕ) (code : Rule) (n : ℕ) → ShapeRefuses sh us code n → Meets k sh us
