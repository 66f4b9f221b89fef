-- Functions and blocks in a list of instructions, by opcodes alone. [2.4]
use Rattle.std.specs.Prelude.{◌||◌, ◌&&◌, ℕ, List, [], ◌∷◌, Bool, nat_eq, if◌then◌else◌}
use Rattle.std.specs.List.{before_first}
use Rattle.spv_module.specs.Operand.{PlainInst, result_in}
use Rattle.spv_module.specs.Width.{has_result}
use Rattle.spv_module.specs.declared.opcode.TheConstants.{FUNCTION, FUNCTION_END}

-- the groups of a list: each begins with an element that begins one, and goes on to before the next that ends it
abbrev pub groups : {A : Type 0} → (A → Bool) → (A → Bool) → List A → List (List A)
groups begins ends [] = []
groups begins ends (x ∷ xs) =
    if begins x then (x ∷ before_first ends xs) ∷ groups begins ends xs else groups begins ends xs

-- does a function begin with this opcode; does it end before it
abbrev pub begins_function : ℕ → Bool
begins_function c = nat_eq c FUNCTION

abbrev pub ends_function : ℕ → Bool
ends_function c = nat_eq c FUNCTION_END || nat_eq c FUNCTION

-- is an instruction the OpFunction of that id
abbrev pub is_function : ℕ → PlainInst → Bool
is_function x i = begins_function i.opcode && has_result (result_in i.operands) x
