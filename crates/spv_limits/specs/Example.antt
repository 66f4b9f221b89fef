-- Small modules.
use Rattle.std.specs.Prelude.{List, [], ◌∷◌}
use Rattle.spv_module.specs.declared.opcode.TheConstants as opcode
use Rattle.spv_module.specs.Operand.{OfType, Result, Id, Word, Value, PlainInst}
use Rattle.spv_type_forms.specs.Example.{inst}

-- a struct, and one that it is a member of
abbrev pub nested : List PlainInst
nested =
    inst opcode.TYPE_INT (Result 1 ∷ Word 32 ∷ Word 0 ∷ []) ∷  -- %1 = OpTypeInt 32 0
    inst opcode.TYPE_STRUCT (Result 2 ∷ Id 1 ∷ Id 1 ∷ []) ∷  -- %2 = OpTypeStruct %1 %1
    inst opcode.TYPE_STRUCT (Result 3 ∷ Id 2 ∷ []) ∷  -- %3 = OpTypeStruct %2
    []

-- a variable before the functions, and one in a function
abbrev pub variables : List PlainInst
variables =
    inst opcode.VARIABLE (OfType 4 ∷ Result 5 ∷ Value 0 5 ∷ []) ∷  -- %5 = OpVariable %4 CrossWorkgroup
    inst opcode.FUNCTION (OfType 6 ∷ Result 7 ∷ Value 0 0 ∷ Id 8 ∷ []) ∷  -- %7 = OpFunction %6 None %8
    inst opcode.VARIABLE (OfType 9 ∷ Result 10 ∷ Value 0 7 ∷ []) ∷  -- %10 = OpVariable %9 Function
    []
