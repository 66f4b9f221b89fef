-- A small module with types and values of them, and calls of OpenCL.std in it.
use Rattle.std.specs.Prelude.{◌+◌, ◌++◌, ℕ, List, [], ◌∷◌, codes}
use Rattle.spv_module.specs.declared.opcode.TheConstants as opcode
use Rattle.spv_module.specs.Operand.{Plain, OfType, Result, Id, Word, Text, Value, Argument, PlainInst}
use Rattle.spv_type_forms.specs.Example.{inst}
use Rattle.spv_std_types.specs.declared.condition.Condition.{Condition}
use Rattle.spv_std_types.specs.Mistyped.{Mistypes}

-- The sets and the types of the small module. Its addressing model is Physical64.
abbrev pub types : List PlainInst
types =
    inst opcode.EXT_INST_IMPORT (Result 1 ∷ Text (codes "OpenCL.std") ∷ []) ∷
    inst opcode.EXT_INST_IMPORT (Result 20 ∷ Text (codes "OpenCL.DebugInfo.100") ∷ []) ∷
    inst opcode.MEMORY_MODEL (Value 3 2 ∷ Value 4 2 ∷ []) ∷  -- OpMemoryModel Physical64 OpenCL
    inst opcode.TYPE_VOID (Result 2 ∷ []) ∷  -- %2 = OpTypeVoid
    inst opcode.TYPE_INT (Result 3 ∷ Word 8 ∷ Word 0 ∷ []) ∷  -- %3 = OpTypeInt 8 0
    inst opcode.TYPE_INT (Result 4 ∷ Word 16 ∷ Word 0 ∷ []) ∷  -- %4 = OpTypeInt 16 0
    inst opcode.TYPE_INT (Result 5 ∷ Word 32 ∷ Word 0 ∷ []) ∷  -- %5 = OpTypeInt 32 0
    inst opcode.TYPE_INT (Result 6 ∷ Word 64 ∷ Word 0 ∷ []) ∷  -- %6 = OpTypeInt 64 0
    inst opcode.TYPE_FLOAT (Result 7 ∷ Word 16 ∷ []) ∷  -- %7 = OpTypeFloat 16
    inst opcode.TYPE_FLOAT (Result 8 ∷ Word 32 ∷ []) ∷  -- %8 = OpTypeFloat 32
    inst opcode.TYPE_VECTOR (Result 9 ∷ Id 8 ∷ Word 4 ∷ []) ∷  -- %9 = OpTypeVector %8 4
    inst opcode.TYPE_VECTOR (Result 10 ∷ Id 8 ∷ Word 8 ∷ []) ∷  -- %10 = OpTypeVector %8 8
    inst opcode.TYPE_VECTOR (Result 11 ∷ Id 5 ∷ Word 4 ∷ []) ∷  -- %11 = OpTypeVector %5 4
    inst opcode.TYPE_VECTOR (Result 12 ∷ Id 8 ∷ Word 2 ∷ []) ∷  -- %12 = OpTypeVector %8 2
    inst opcode.TYPE_POINTER (Result 13 ∷ Value 0 7 ∷ Id 8 ∷ []) ∷  -- %13 = OpTypePointer Function %8
    inst opcode.TYPE_POINTER (Result 14 ∷ Value 0 7 ∷ Id 5 ∷ []) ∷  -- %14 = OpTypePointer Function %5
    inst opcode.TYPE_POINTER (Result 15 ∷ Value 0 0 ∷ Id 8 ∷ []) ∷  -- %15 = OpTypePointer UniformConstant %8
    inst opcode.TYPE_POINTER (Result 16 ∷ Value 0 0 ∷ Id 3 ∷ []) ∷  -- %16 = OpTypePointer UniformConstant %3
    inst opcode.TYPE_POINTER (Result 17 ∷ Value 0 5 ∷ Id 8 ∷ []) ∷  -- %17 = OpTypePointer CrossWorkgroup %8
    inst opcode.TYPE_POINTER (Result 18 ∷ Value 0 5 ∷ Id 7 ∷ []) ∷  -- %18 = OpTypePointer CrossWorkgroup %7
    inst opcode.TYPE_VECTOR (Result 19 ∷ Id 5 ∷ Word 2 ∷ []) ∷  -- %19 = OpTypeVector %5 2
    []

-- a value of the type t, whose id is 100 more: %104 = OpUndef %4
abbrev pub value : ℕ → PlainInst
value t = inst opcode.UNDEF (OfType t ∷ Result (100 + t) ∷ [])

abbrev pub small : List PlainInst
small = types ++ value 4 ∷ value 5 ∷ value 6 ∷ value 8 ∷ value 9 ∷ value 10 ∷ value 11 ∷ value 12 ∷ value 13
    ∷ value 14 ∷ value 15 ∷ value 16 ∷ value 17 ∷ value 18 ∷ value 19 ∷ []

-- a value of the type t as an operand
abbrev pub of : ℕ → Plain
of t = Argument (100 + t)

-- the operands of %99 = OpExtInst %r %1 number ..
abbrev pub call : ℕ → ℕ → List Plain → List Plain
call r number os = OfType r ∷ Result 99 ∷ Id 1 ∷ Word number ∷ os

-- such a call keeps Y10 in the small module; breaks it by a condition
abbrev pub Keeps : ℕ → ℕ → List Plain → Type 0
Keeps r number os = (a : Condition) → ¬ (Mistypes small (call r number os) a)

abbrev pub Breaks : ℕ → ℕ → List Plain → Condition → Type 0
Breaks r number os a = Mistypes small (call r number os) a

-- %99 = OpExtInst %9 %1 0 %108 behind the types: acos of a float that is to be a vector
abbrev pub unlike : List PlainInst
unlike = types ++ value 8 ∷ inst opcode.EXT_INST (call 9 0 (of 8 ∷ [])) ∷ []
