-- The operands of an instruction, as they are written in its line. (Own.)
use Rattle.std.specs.Prelude.{◌≡◌, ◌++◌, ℕ, List, [], ◌∷◌, Option, Some, None, false, map}
use Rattle.spv_table.specs.Table.{Table}
use Rattle.spv_module.specs.Operand.{Plain, Result, Context, and_then, result_in}
use Rattle.spv_module.specs.Shape.{Slot, AsParts, shape_of}
use Rattle.spv_module.specs.Spelling.{Takes}
use Rattle.spv_inst.specs.Flat.{Due, OneOf, MaybeOf, ManyOf}
use Rattle.spv_lines.specs.Operand.{Form, is_float, is_result}

-- The piece of a line behind the name that an operand is: none of the line's result, which stands in front, and of
-- every other operand its text after one space. [own]
pub data Piece (form : Form) (G : Table) (r : Option ℕ) (c : Context) (s : Slot) : Plain → List ℕ → Type 0 where
  result : (x : ℕ) → result_in c.operands ≡ None → r ≡ Some x → Piece form G r c s (Result x) []
  other : (o : Plain) (t : List ℕ) → is_result c o ≡ false → form (is_float G c s) o t
      → Piece form G r c s o (32 ∷ t)

-- What is due takes the operands, all of the words that are left of the instruction, and all that is left of its line.
-- [own]
pub data Written (form : Form) (G : Table) (r : Option ℕ) : Context → List Due → List Plain → List ℕ
    → List ℕ → Type 0 where
  end : (c : Context) → Written form G r c [] [] [] []
  take : (c : Context) (s : Slot) (ds : List Due) (o : Plain) (ws : List ℕ) (ss : List Slot) (p : List ℕ)
      (os : List Plain) (us t : List ℕ)
      → Takes s.kind (shape_of G c s) o ws ss → Piece form G r c s o p
      → Written form G r (and_then c o) (map OneOf ss ++ ds) os us t
      → Written form G r c (OneOf s ∷ ds) (o ∷ os) (ws ++ us) (p ++ t)
  parts : (c : Context) (s : Slot) (ds : List Due) (ss : List Slot) (os : List Plain) (us t : List ℕ)
      → shape_of G c s ≡ AsParts ss → Written form G r c (map OneOf ss ++ ds) os us t
      → Written form G r c (OneOf s ∷ ds) os us t
  no_maybe : (c : Context) (s : Slot) (ds : List Due) (os : List Plain) (t : List ℕ)
      → Written form G r c ds os [] t → Written form G r c (MaybeOf s ∷ ds) os [] t
  maybe : (c : Context) (s : Slot) (ds : List Due) (os : List Plain) (u : ℕ) (us t : List ℕ)
      → Written form G r c (OneOf s ∷ ds) os (u ∷ us) t → Written form G r c (MaybeOf s ∷ ds) os (u ∷ us) t
  no_many : (c : Context) (s : Slot) (ds : List Due) (os : List Plain) (t : List ℕ)
      → Written form G r c ds os [] t → Written form G r c (ManyOf s ∷ ds) os [] t
  many : (c : Context) (s : Slot) (ds : List Due) (os : List Plain) (u : ℕ) (us t : List ℕ)
      → Written form G r c (OneOf s ∷ ManyOf s ∷ ds) os (u ∷ us) t
      → Written form G r c (ManyOf s ∷ ds) os (u ∷ us) t
