-- The operands of an instruction that the rows of types speak of.
use Rattle.std.specs.Prelude.{ℕ, List, [], ◌∷◌, Option, Some, None, nat_eq, if◌then◌else◌}
use Rattle.spv_module.specs.declared.opcode.TheConstants as opcode
use Rattle.spv_module.specs.Operand.{Plain, OfType, Result, Id, Word, PlainInst}

-- the literals of one word, in order; the ids at the front, in order [own]
abbrev pub words_in : List Plain → List ℕ
words_in [] = []
words_in (Word k ∷ os) = k ∷ words_in os
words_in (_ ∷ os) = words_in os

abbrev pub ids_in : List Plain → List ℕ
ids_in (Id x ∷ os) = x ∷ ids_in os
ids_in _ = []

-- the result type: the first operand, if it is one; what follows the result type and the result [2.3]
abbrev pub result_type_in : List Plain → Option ℕ
result_type_in (OfType t ∷ os) = Some t
result_type_in os = None

abbrev pub after_head : List Plain → List Plain
after_head (OfType t ∷ Result x ∷ os) = os
after_head os = os

-- the function type that an OpFunction names: %f = OpFunction %r control %t [3.49.9]
abbrev pub type_after_control : List Plain → Option ℕ
type_after_control (c ∷ Id t ∷ os) = Some t
type_after_control _ = None

abbrev pub function_type_in : PlainInst → Option ℕ
function_type_in i = if nat_eq i.opcode opcode.FUNCTION then type_after_control (after_head i.operands) else None
