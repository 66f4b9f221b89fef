-- Fingerprints of instructions without their results. (For the code alone.)
use Rattle.std.specs.Prelude.{ℕ, ◌+◌, ◌*◌, ◌%◌, List, [], ◌∷◌}
use Rattle.spv_module.specs.Operand.{Plain, OfType, Result, Id, Word, Number, Text, Value, Mask, Argument, Mention}
use Rattle.spv_module.specs.Operand.{PlainInst}
use Rattle.spv_type_forms.specs.Parts.{after_result}

-- one number more, after what was mixed before it, and many
abbrev pub mixed_with : ℕ → ℕ → ℕ
mixed_with m x = ((m + x) * 16777619) % 4294967296

abbrev pub mixed_with_all : ℕ → List ℕ → ℕ
mixed_with_all m [] = m
mixed_with_all m (x ∷ xs) = mixed_with_all (mixed_with m x) xs

-- an operand more, and many
abbrev pub mixed_with_operand : ℕ → Plain → ℕ
mixed_with_operand m (OfType x) = mixed_with m x
mixed_with_operand m (Result x) = mixed_with m x
mixed_with_operand m (Id x) = mixed_with m x
mixed_with_operand m (Word x) = mixed_with m x
mixed_with_operand m (Number low high words) = mixed_with (mixed_with m low) high
mixed_with_operand m (Text t) = mixed_with_all m t
mixed_with_operand m (Value k x) = mixed_with m x
mixed_with_operand m (Mask k x) = mixed_with m x
mixed_with_operand m (Argument x) = mixed_with m x
mixed_with_operand m (Mention x) = mixed_with m x

abbrev pub mixed_with_operands : ℕ → List Plain → ℕ
mixed_with_operands m [] = m
mixed_with_operands m (o ∷ os) = mixed_with_operands (mixed_with_operand m o) os

abbrev pub fingerprint_of : PlainInst → ℕ
fingerprint_of i = mixed_with_operands i.opcode (after_result i.operands)
