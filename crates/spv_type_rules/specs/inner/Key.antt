-- An instruction without its result, as a list of numbers. (For the code alone; `one_key` says that it is told by
-- them.)
use Rattle.std.specs.Prelude.{ℕ, ◌+◌, List, [], ◌∷◌, ◌++◌, map}
use Rattle.spv_module.specs.Operand.{Plain, OfType, Result, Id, Word, Number, Text, Value, Mask, Argument, Mention}
use Rattle.spv_module.specs.Operand.{PlainInst}
use Rattle.spv_type_forms.specs.Parts.{after_result}

-- an operand; a text by its octets, each a number above 0, and a 0
abbrev pub operand_numbers : Plain → List ℕ
operand_numbers (OfType x) = 0 ∷ x ∷ []
operand_numbers (Result x) = 1 ∷ x ∷ []
operand_numbers (Id x) = 2 ∷ x ∷ []
operand_numbers (Word x) = 3 ∷ x ∷ []
operand_numbers (Number low high words) = 4 ∷ low ∷ high ∷ words ∷ []
operand_numbers (Text t) = (5 ∷ map (λ b. b + 1) t) ++ 0 ∷ []
operand_numbers (Value k x) = 6 ∷ k ∷ x ∷ []
operand_numbers (Mask k x) = 7 ∷ k ∷ x ∷ []
operand_numbers (Argument x) = 8 ∷ x ∷ []
operand_numbers (Mention x) = 9 ∷ x ∷ []

abbrev pub all_numbers : List Plain → List ℕ
all_numbers [] = []
all_numbers (o ∷ os) = operand_numbers o ++ all_numbers os

abbrev pub key_of : PlainInst → List ℕ
key_of i = i.opcode ∷ all_numbers (after_result i.operands)
