-- The operands of instructions that the fronts of their patterns tell. (For the code alone.)
use Rattle.std.specs.Prelude.{◌+◌, ℕ, List, [], ◌∷◌, map, slice_index}
use Rattle.spv_table.specs.declared.front.Head.{Head}
use Rattle.spv_table.specs.declared.front.Head.TheVariants as head
use Rattle.spv_module.specs.declared.operand.Operand as declared
use Rattle.spv_module.specs.declared.operand.Operand.TheVariants.{OfType, Result, Id}

-- the operands of a head whose first word has a place
abbrev pub head_operands : Head → List ℕ → ℕ → List declared.Operand
head_operands head.Nothing words first = []
head_operands head.Result words first = Result (slice_index words first) ∷ []
head_operands head.TypeAndResult words first =
    OfType (slice_index words first) ∷ Result (slice_index words (first + 1)) ∷ []

-- words as ids
abbrev pub id_operands : List ℕ → List declared.Operand
id_operands words = map Id words
