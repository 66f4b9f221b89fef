-- Small examples, of which the operands that no rule on calls looks at do not matter.
use Rattle.std.specs.Prelude.{ℕ, List, [], ◌∷◌}
use Rattle.spv_module.specs.declared.opcode.TheConstants as opcode
use Rattle.spv_module.specs.Operand.{PlainInst, OfType, Result, Id, Value, Text}

-- OpEntryPoint Kernel %f ""
abbrev pub entry : ℕ → PlainInst
entry f = record { opcode = 15; operands = Value 0 6 ∷ Id f ∷ Text [] ∷ [] }

-- %f = OpFunction %20
abbrev pub function : ℕ → PlainInst
function f = record { opcode = opcode.FUNCTION; operands = OfType 20 ∷ Result f ∷ [] }

-- %l = OpLabel
abbrev pub label : ℕ → PlainInst
label l = record { opcode = opcode.LABEL; operands = Result l ∷ [] }

-- %r = OpFunctionCall %20 %f
abbrev pub call : ℕ → ℕ → PlainInst
call r f = record { opcode = opcode.FUNCTION_CALL; operands = OfType 20 ∷ Result r ∷ Id f ∷ [] }

-- OpReturn
abbrev pub return_op : PlainInst
return_op = record { opcode = opcode.RETURN; operands = [] }

-- OpFunctionEnd
abbrev pub end : PlainInst
end = record { opcode = opcode.FUNCTION_END; operands = [] }

-- %1 calls %4, and %4 calls itself
abbrev pub functions : List PlainInst
functions = function 1 ∷ label 2 ∷ call 3 4 ∷ return_op ∷ end ∷ function 4 ∷ label 5 ∷ call 6 4
    ∷ return_op ∷ end ∷ []

-- An entry point's function %1 calls %4, which calls itself.
abbrev pub looped : List PlainInst
looped = entry 1 ∷ functions
