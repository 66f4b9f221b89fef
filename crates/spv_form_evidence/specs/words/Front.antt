-- How far the words of an instruction spell operands by its pattern.
use Rattle.std.specs.Prelude.{◌≡◌, ℕ, List, [], ◌∷◌, ◌++◌, map}
use Rattle.spv_table.specs.Table.{Table, Item}
use Rattle.spv_module.specs.Operand.{Plain, Context, after}
use Rattle.spv_module.specs.Shape.{Slot, AsParts, shape_of}
use Rattle.spv_module.specs.Spelling.{Takes}
use Rattle.spv_inst.specs.Flat.{Due, OneOf, MaybeOf, ManyOf, due}

-- Of the further words of an instruction, those at the front spell these operands in order; then these kinds are due,
-- the next one first, and these words are left. [2.3]
pub data Reaches (G : Table) (c : Context) (pattern : List Item) (words : List ℕ) : List Plain → List ℕ
    → List Due
    → List ℕ → Type 0 where
  -- no operand: the items of the pattern are due
  begin : Reaches G c pattern words [] [] (map due pattern) words
  -- one operand more, by the kind that was due; then the kinds of its parameters are due first
  operand : (os : List Plain) (front : List ℕ) (s : Slot) (ds : List Due) (o : Plain) (ws left : List ℕ)
      (ss : List Slot) → Reaches G c pattern words os front (OneOf s ∷ ds) (ws ++ left)
      → Takes s.kind (shape_of G (after c os) s) o ws ss
      → Reaches G c pattern words (os ++ o ∷ []) (front ++ ws) (map OneOf ss ++ ds) left
  -- in place of a Composite its bases are due
  parts : (os : List Plain) (front : List ℕ) (s : Slot) (ds : List Due) (left : List ℕ) (ss : List Slot)
      → Reaches G c pattern words os front (OneOf s ∷ ds) left → shape_of G (after c os) s ≡ AsParts ss
      → Reaches G c pattern words os front (map OneOf ss ++ ds) left
  -- an item that may be absent is due where words are left, one that may be repeated then also once more after it
  maybe : (os : List Plain) (front : List ℕ) (s : Slot) (ds : List Due) (u : ℕ) (left : List ℕ)
      → Reaches G c pattern words os front (MaybeOf s ∷ ds) (u ∷ left)
      → Reaches G c pattern words os front (OneOf s ∷ ds) (u ∷ left)
  many : (os : List Plain) (front : List ℕ) (s : Slot) (ds : List Due) (u : ℕ) (left : List ℕ)
      → Reaches G c pattern words os front (ManyOf s ∷ ds) (u ∷ left)
      → Reaches G c pattern words os front (OneOf s ∷ ManyOf s ∷ ds) (u ∷ left)
  -- and is absent where none is left
  no_maybe : (os : List Plain) (front : List ℕ) (s : Slot) (ds : List Due)
      → Reaches G c pattern words os front (MaybeOf s ∷ ds) [] → Reaches G c pattern words os front ds []
  no_many : (os : List Plain) (front : List ℕ) (s : Slot) (ds : List Due)
      → Reaches G c pattern words os front (ManyOf s ∷ ds) [] → Reaches G c pattern words os front ds []
