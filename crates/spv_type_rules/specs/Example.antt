-- A small module: types, a constant, a function and a call.
use Rattle.std.specs.Prelude.{ℕ, List, [], ◌∷◌}
use Rattle.spv_module.specs.declared.opcode.TheConstants as opcode
use Rattle.spv_module.specs.Operand.{OfType, Result, Id, Word, Number, Value, Mask, PlainInst}
use Rattle.spv_type_forms.specs.Example.{inst}

-- %6 = OpConstant %1 300, where %1 is an int of width 8
abbrev pub wide_constant : PlainInst
wide_constant = inst opcode.CONSTANT (OfType 1 ∷ Result 6 ∷ Number 300 0 1 ∷ [])

-- %5 = OpConstant %1 7
abbrev pub constant : PlainInst
constant = inst opcode.CONSTANT (OfType 1 ∷ Result 5 ∷ Number 7 0 1 ∷ [])

-- %9 = OpFunctionCall %1 %4 %5, and the same without its argument
abbrev pub call : PlainInst
call = inst opcode.FUNCTION_CALL (OfType 1 ∷ Result 9 ∷ Id 4 ∷ Id 5 ∷ [])

abbrev pub short_call : PlainInst
short_call = inst opcode.FUNCTION_CALL (OfType 1 ∷ Result 9 ∷ Id 4 ∷ [])

-- a second type of ints of width 8
abbrev pub again : PlainInst
again = inst opcode.TYPE_INT (Result 7 ∷ Word 8 ∷ Word 0 ∷ [])

abbrev pub small : List PlainInst
small =
    inst opcode.TYPE_INT (Result 1 ∷ Word 8 ∷ Word 0 ∷ []) ∷  -- %1 = OpTypeInt 8 0
    inst opcode.TYPE_VOID (Result 2 ∷ []) ∷  -- %2 = OpTypeVoid
    inst opcode.TYPE_FUNCTION (Result 3 ∷ Id 1 ∷ Id 1 ∷ []) ∷  -- %3 = OpTypeFunction %1 %1
    constant ∷
    inst opcode.FUNCTION (OfType 1 ∷ Result 4 ∷ Mask 9 0 ∷ Id 3 ∷ []) ∷  -- %4 = OpFunction %1 None %3
    inst opcode.FUNCTION_PARAMETER (OfType 1 ∷ Result 8 ∷ []) ∷  -- %8 = OpFunctionParameter %1
    inst opcode.FUNCTION_END [] ∷  -- OpFunctionEnd
    []

-- %4 = OpFunction %1 None %3, and %8 = OpFunctionParameter %1
abbrev pub function : PlainInst
function = inst opcode.FUNCTION (OfType 1 ∷ Result 4 ∷ Mask 9 0 ∷ Id 3 ∷ [])

abbrev pub parameter : PlainInst
parameter = inst opcode.FUNCTION_PARAMETER (OfType 1 ∷ Result 8 ∷ [])

-- the small module after %10 = OpTypeStruct %1 %1 and %11 = OpTypeBool
abbrev pub with_struct : List PlainInst
with_struct = inst opcode.TYPE_STRUCT (Result 10 ∷ Id 1 ∷ Id 1 ∷ []) ∷ inst opcode.TYPE_BOOL (Result 11 ∷ []) ∷ small

-- OpTypeForwardPointer %1 CrossWorkgroup, and %1 = OpTypePointer CrossWorkgroup %1
abbrev pub pointers : List PlainInst
pointers =
    inst opcode.TYPE_FORWARD_POINTER (Id 1 ∷ Value 0 5 ∷ []) ∷
    inst opcode.TYPE_POINTER (Result 1 ∷ Value 0 5 ∷ Id 1 ∷ []) ∷
    []

-- a function that returns void
abbrev pub returning : List PlainInst
returning =
    inst opcode.TYPE_VOID (Result 1 ∷ []) ∷  -- %1 = OpTypeVoid
    inst opcode.FUNCTION (OfType 1 ∷ Result 3 ∷ Mask 8 0 ∷ Id 2 ∷ []) ∷  -- %3 = OpFunction %1 None %2
    inst opcode.LABEL (Result 4 ∷ []) ∷  -- %4 = OpLabel
    inst opcode.RETURN [] ∷  -- OpReturn
    []

-- %x = OpTypeImage %t 2D 0 arrayed 0 sampled Unknown
abbrev pub image : ℕ → ℕ → ℕ → ℕ → PlainInst
image x t arrayed sampled = inst opcode.TYPE_IMAGE
    (Result x ∷ Id t ∷ Value 5 1 ∷ Word 0 ∷ Word arrayed ∷ Word 0 ∷ Word sampled ∷ Value 6 0 ∷ [])

-- %1 = OpTypeSampler
abbrev pub samplers : List PlainInst
samplers = inst opcode.TYPE_SAMPLER (Result 1 ∷ []) ∷ []
