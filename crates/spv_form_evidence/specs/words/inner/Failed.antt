-- Which operand fails. (For the code alone.)
use Rattle.std.specs.Prelude.{ℕ, List, [], ◌∷◌, length, Some, None}
use Rattle.spv_table.specs.Table.{Table, Item}
use Rattle.spv_module.specs.Operand.{Plain, Context, after}
use Rattle.spv_module.specs.Shape.{Slot, shape_of}
use Rattle.spv_module.specs.Refusal.{ShapeRefuses}
use Rattle.spv_module.specs.declared.fault.Rule.{Rule}
use Rattle.spv_inst.specs.Flat.{Due, OneOf}
use Rattle.spv_form_evidence.specs.words.Front.{Reaches}
use Rattle.spv_form_evidence.specs.declared.words.operands.Failed.{Failed}

-- After so many operands no kind is due and words are left, or the kind that is due refuses the words left.
pub data Fails (G : Table) (c : Context) (pattern : List Item) (words : List ℕ) : Failed → Type 0 where
  left_over : (os : List Plain) (front : List ℕ) (x : ℕ) (left : List ℕ)
      → Reaches G c pattern words os front [] (x ∷ left)
      → Fails G c pattern words (record { operand = length os; kind = None })
  refused : (os : List Plain) (front : List ℕ) (s : Slot) (ds : List Due) (left : List ℕ) (code : Rule) (n : ℕ)
      → Reaches G c pattern words os front (OneOf s ∷ ds) left
      → ShapeRefuses (shape_of G (after c os) s) left code n
      → Fails G c pattern words (record { operand = length os; kind = Some s.kind })
