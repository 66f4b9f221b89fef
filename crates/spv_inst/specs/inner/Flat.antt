-- The same by one relation over what is due and all the words left of the instruction, as a decoder goes. (For the code
-- alone.)
use Rattle.std.specs.Prelude.{◌≡◌, ◌+◌, ℕ, List, [], ◌∷◌, ◌++◌, map, length}
use Rattle.spv_table.specs.Table.{Table}
use Rattle.spv_module.specs.Operand.{Plain, Context, and_then}
use Rattle.spv_module.specs.Shape.{Slot, AsParts, shape_of}
use Rattle.spv_module.specs.Spelling.{Takes}
use Rattle.spv_module.specs.declared.fault.Rule.{Rule}
use Rattle.spv_module.specs.declared.fault.Rule.TheVariants.{I5}
use Rattle.spv_module.specs.Refusal.{ShapeRefuses}
use Rattle.spv_inst.specs.Flat.{Due, ManyOf, MaybeOf, OneOf}

-- What is due matches the operands, and all of the words that are left of the instruction.
pub data Matches (G : Table) : Context → List Due → List Plain → List ℕ → Type 0 where
  end : (c : Context) → Matches G c [] [] []
  take : (c : Context) (s : Slot) (ds : List Due) (o : Plain) (ws : List ℕ) (ss : List Slot) (os : List Plain)
      (us : List ℕ)
      → Takes s.kind (shape_of G c s) o ws ss → Matches G (and_then c o) (map OneOf ss ++ ds) os us
      → Matches G c (OneOf s ∷ ds) (o ∷ os) (ws ++ us)
  parts : (c : Context) (s : Slot) (ds : List Due) (ss : List Slot) (os : List Plain) (us : List ℕ)
      → shape_of G c s ≡ AsParts ss → Matches G c (map OneOf ss ++ ds) os us
      → Matches G c (OneOf s ∷ ds) os us
  no_maybe : (c : Context) (s : Slot) (ds : List Due) (os : List Plain) → Matches G c ds os []
      → Matches G c (MaybeOf s ∷ ds) os []
  maybe : (c : Context) (s : Slot) (ds : List Due) (os : List Plain) (u : ℕ) (us : List ℕ)
      → Matches G c (OneOf s ∷ ds) os (u ∷ us) → Matches G c (MaybeOf s ∷ ds) os (u ∷ us)
  no_many : (c : Context) (s : Slot) (ds : List Due) (os : List Plain) → Matches G c ds os []
      → Matches G c (ManyOf s ∷ ds) os []
  many : (c : Context) (s : Slot) (ds : List Due) (os : List Plain) (u : ℕ) (us : List ℕ)
      → Matches G c (OneOf s ∷ ManyOf s ∷ ds) os (u ∷ us) → Matches G c (ManyOf s ∷ ds) os (u ∷ us)

-- What is due comes to a refusal of the words left of the instruction, with a code, at a word counted from the first of
-- them.
pub data Fails (G : Table) : Context → List Due → List ℕ → Rule → ℕ → Type 0 where
  left : (c : Context) (u : ℕ) (us : List ℕ) → Fails G c [] (u ∷ us) I5 0
  refused : (c : Context) (s : Slot) (ds : List Due) (us : List ℕ) (code : Rule) (n : ℕ)
      → ShapeRefuses (shape_of G c s) us code n → Fails G c (OneOf s ∷ ds) us code n
  take : (c : Context) (s : Slot) (ds : List Due) (o : Plain) (ws : List ℕ) (ss : List Slot) (us : List ℕ)
      (code : Rule) (n : ℕ)
      → Takes s.kind (shape_of G c s) o ws ss → Fails G (and_then c o) (map OneOf ss ++ ds) us code n
      → Fails G c (OneOf s ∷ ds) (ws ++ us) code (length ws + n)
  parts : (c : Context) (s : Slot) (ds : List Due) (ss : List Slot) (us : List ℕ) (code : Rule) (n : ℕ)
      → shape_of G c s ≡ AsParts ss → Fails G c (map OneOf ss ++ ds) us code n
      → Fails G c (OneOf s ∷ ds) us code n
  no_maybe : (c : Context) (s : Slot) (ds : List Due) (code : Rule) (n : ℕ) → Fails G c ds [] code n
      → Fails G c (MaybeOf s ∷ ds) [] code n
  maybe : (c : Context) (s : Slot) (ds : List Due) (u : ℕ) (us : List ℕ) (code : Rule) (n : ℕ)
      → Fails G c (OneOf s ∷ ds) (u ∷ us) code n → Fails G c (MaybeOf s ∷ ds) (u ∷ us) code n
  no_many : (c : Context) (s : Slot) (ds : List Due) (code : Rule) (n : ℕ) → Fails G c ds [] code n
      → Fails G c (ManyOf s ∷ ds) [] code n
  many : (c : Context) (s : Slot) (ds : List Due) (u : ℕ) (us : List ℕ) (code : Rule) (n : ℕ)
      → Fails G c (OneOf s ∷ ManyOf s ∷ ds) (u ∷ us) code n → Fails G c (ManyOf s ∷ ds) (u ∷ us) code n
