-- Small modules' types, constants and variables, and a variable alone.
use Rattle.std.specs.Prelude.{ℕ, List, [], ◌∷◌}
use Rattle.spv_module.specs.declared.opcode.TheConstants as opcode
use Rattle.spv_module.specs.Operand.{Plain, OfType, Result, Id, Word, Number, Value, PlainInst}

abbrev pub inst : ℕ → List Plain → PlainInst
inst opcode operands = record { opcode = opcode; operands = operands }

abbrev pub small : List PlainInst
small =
    inst opcode.TYPE_INT (Result 1 ∷ Word 32 ∷ Word 0 ∷ []) ∷  -- %1 = OpTypeInt 32 0
    inst opcode.TYPE_FLOAT (Result 2 ∷ Word 32 ∷ []) ∷  -- %2 = OpTypeFloat 32
    inst opcode.TYPE_VECTOR (Result 3 ∷ Id 1 ∷ Word 4 ∷ []) ∷  -- %3 = OpTypeVector %1 4
    inst opcode.TYPE_STRUCT (Result 6 ∷ Id 1 ∷ Id 2 ∷ []) ∷  -- %6 = OpTypeStruct %1 %2
    inst opcode.TYPE_POINTER (Result 4 ∷ Value 0 5 ∷ Id 2 ∷ []) ∷  -- %4 = OpTypePointer CrossWorkgroup %2
    inst opcode.TYPE_POINTER (Result 7 ∷ Value 0 5 ∷ Id 6 ∷ []) ∷  -- %7 = OpTypePointer CrossWorkgroup %6
    inst opcode.CONSTANT (OfType 1 ∷ Result 5 ∷ Number 1 0 1 ∷ []) ∷  -- %5 = OpConstant %1 1
    inst opcode.VARIABLE (OfType 7 ∷ Result 8 ∷ Value 0 5 ∷ []) ∷  -- %8 = OpVariable %7 CrossWorkgroup
    inst opcode.TYPE_BOOL (Result 12 ∷ []) ∷  -- %12 = OpTypeBool
    inst opcode.TYPE_VECTOR (Result 13 ∷ Id 12 ∷ Word 4 ∷ []) ∷  -- %13 = OpTypeVector %12 4
    inst opcode.TYPE_INT (Result 14 ∷ Word 64 ∷ Word 0 ∷ []) ∷  -- %14 = OpTypeInt 64 0
    inst opcode.TYPE_VECTOR (Result 15 ∷ Id 1 ∷ Word 2 ∷ []) ∷  -- %15 = OpTypeVector %1 2
    inst opcode.TYPE_POINTER (Result 16 ∷ Value 0 8 ∷ Id 2 ∷ []) ∷  -- %16 = OpTypePointer Generic %2
    inst opcode.TYPE_POINTER (Result 17 ∷ Value 0 7 ∷ Id 1 ∷ []) ∷  -- %17 = OpTypePointer Function %1
    inst opcode.SPEC_CONSTANT (OfType 1 ∷ Result 18 ∷ Number 3 0 1 ∷ []) ∷  -- %18 = OpSpecConstant %1 3
    inst opcode.TYPE_ARRAY (Result 19 ∷ Id 2 ∷ Id 18 ∷ []) ∷  -- %19 = OpTypeArray %2 %18
    []

-- %8 = OpVariable %7 CrossWorkgroup
abbrev pub lone_variable : List PlainInst
lone_variable = inst opcode.VARIABLE (OfType 7 ∷ Result 8 ∷ Value 0 5 ∷ []) ∷ []

-- types of objects and of a range, in a module whose addressing model is Physical64
abbrev pub objects : List PlainInst
objects =
    inst opcode.MEMORY_MODEL (Value 3 2 ∷ Value 4 2 ∷ []) ∷  -- OpMemoryModel Physical64 OpenCL
    inst opcode.TYPE_INT (Result 1 ∷ Word 32 ∷ Word 0 ∷ []) ∷  -- %1 = OpTypeInt 32 0
    inst opcode.TYPE_INT (Result 2 ∷ Word 64 ∷ Word 0 ∷ []) ∷  -- %2 = OpTypeInt 64 0
    inst opcode.TYPE_FLOAT (Result 3 ∷ Word 32 ∷ []) ∷  -- %3 = OpTypeFloat 32
    -- %4 = OpTypeImage %3 2D 0 0 0 0 Unknown WriteOnly
    inst opcode.TYPE_IMAGE
    (Result 4 ∷ Id 3 ∷ Value 5 1 ∷ Word 0 ∷ Word 0 ∷ Word 0 ∷ Word 0 ∷ Value 6 0 ∷ Value 7 1 ∷ []) ∷
    inst opcode.TYPE_SAMPLED_IMAGE (Result 5 ∷ Id 4 ∷ []) ∷  -- %5 = OpTypeSampledImage %4
    inst opcode.TYPE_PIPE (Result 6 ∷ Value 7 1 ∷ []) ∷  -- %6 = OpTypePipe WriteOnly
    inst opcode.TYPE_QUEUE (Result 7 ∷ []) ∷  -- %7 = OpTypeQueue
    inst opcode.CONSTANT (OfType 1 ∷ Result 8 ∷ Number 3 0 1 ∷ []) ∷  -- %8 = OpConstant %1 3
    inst opcode.TYPE_ARRAY (Result 9 ∷ Id 2 ∷ Id 8 ∷ []) ∷  -- %9 = OpTypeArray %2 %8
    inst opcode.TYPE_STRUCT (Result 10 ∷ Id 1 ∷ Id 9 ∷ Id 9 ∷ Id 9 ∷ []) ∷  -- %10 = OpTypeStruct %1 %9 %9 %9
    inst opcode.TYPE_POINTER (Result 11 ∷ Value 0 7 ∷ Id 10 ∷ []) ∷  -- %11 = OpTypePointer Function %10
    inst opcode.TYPE_ARRAY (Result 12 ∷ Id 6 ∷ Id 8 ∷ []) ∷  -- %12 = OpTypeArray %6 %8
    inst opcode.TYPE_STRUCT (Result 13 ∷ Id 7 ∷ Id 1 ∷ []) ∷  -- %13 = OpTypeStruct %7 %1
    inst opcode.TYPE_PIPE_STORAGE (Result 14 ∷ []) ∷  -- %14 = OpTypePipeStorage
    -- %15 = OpConstantPipeStorage %14 4 4 1
    inst opcode.CONSTANT_PIPE_STORAGE (OfType 14 ∷ Result 15 ∷ Word 4 ∷ Word 4 ∷ Word 1 ∷ []) ∷
    []

-- %1 = OpTypePipe WriteOnly, and %2 = OpTypeArray %1 %3; what the length is does not matter
abbrev pub pipes : List PlainInst
pipes = inst opcode.TYPE_PIPE (Result 1 ∷ Value 7 1 ∷ []) ∷ inst opcode.TYPE_ARRAY (Result 2 ∷ Id 1 ∷ Id 3 ∷ []) ∷ []

-- structs of one int that are declared twice, arrays of them, and a struct of two ints; what the length of the arrays
-- is does not matter
abbrev pub twins : List PlainInst
twins =
    inst opcode.TYPE_INT (Result 1 ∷ Word 32 ∷ Word 0 ∷ []) ∷  -- %1 = OpTypeInt 32 0
    inst opcode.TYPE_STRUCT (Result 2 ∷ Id 1 ∷ []) ∷  -- %2 = OpTypeStruct %1
    inst opcode.TYPE_STRUCT (Result 3 ∷ Id 1 ∷ []) ∷  -- %3 = OpTypeStruct %1
    inst opcode.TYPE_ARRAY (Result 4 ∷ Id 2 ∷ Id 9 ∷ []) ∷  -- %4 = OpTypeArray %2 %9
    inst opcode.TYPE_ARRAY (Result 5 ∷ Id 3 ∷ Id 9 ∷ []) ∷  -- %5 = OpTypeArray %3 %9
    inst opcode.TYPE_STRUCT (Result 6 ∷ Id 1 ∷ Id 1 ∷ []) ∷  -- %6 = OpTypeStruct %1 %1
    []
