-- Small instructions.
use Rattle.std.specs.Prelude.{ℕ, List, [], ◌∷◌, codes}
use Rattle.spv_module.specs.Operand.{OfType, Result, Id, Word, Text, Value, Mask, PlainInst}
use Rattle.spv_module.specs.declared.opcode.TheConstants as opcode
use Rattle.spv_type_forms.specs.Example.{inst}

-- OpBranchConditional %5 %30 %31 without literals, and with one
abbrev pub no_weight : PlainInst
no_weight = inst opcode.BRANCH_CONDITIONAL (Id 5 ∷ Id 30 ∷ Id 31 ∷ [])

abbrev pub one_weight : PlainInst
one_weight = inst opcode.BRANCH_CONDITIONAL (Id 5 ∷ Id 30 ∷ Id 31 ∷ Word 1 ∷ [])

-- %1 = OpExtInstImport of a set; %2 = OpTypeVoid; %4 = OpDecorationGroup; %6 = OpTypeStruct %5 %5
abbrev pub sets : List PlainInst
sets =
    inst opcode.EXT_INST_IMPORT (Result 1 ∷ Text (codes "NonSemantic.ClspvReflection.5") ∷ []) ∷
    inst opcode.EXT_INST_IMPORT (Result 3 ∷ Text (codes "OpenCL.std") ∷ []) ∷
    inst opcode.DECORATION_GROUP (Result 4 ∷ []) ∷
    inst opcode.TYPE_VOID (Result 2 ∷ []) ∷
    inst opcode.TYPE_INT (Result 5 ∷ Word 32 ∷ Word 0 ∷ []) ∷
    inst opcode.TYPE_STRUCT (Result 6 ∷ Id 5 ∷ Id 5 ∷ []) ∷
    []

-- %9 = OpExtInst %2 %x 1
abbrev pub call : ℕ → PlainInst
call x = inst opcode.EXT_INST (OfType 2 ∷ Result 9 ∷ Id x ∷ Word 1 ∷ [])

-- a function of a block, %6, that takes a size of local memory
abbrev pub kernels : List PlainInst
kernels =
    inst opcode.TYPE_VOID (Result 1 ∷ []) ∷  -- %1 = OpTypeVoid
    inst opcode.TYPE_INT (Result 2 ∷ Word 8 ∷ Word 0 ∷ []) ∷  -- %2 = OpTypeInt 8 0
    inst opcode.TYPE_POINTER (Result 3 ∷ Value 0 8 ∷ Id 2 ∷ []) ∷  -- %3 = OpTypePointer Generic %2
    inst opcode.TYPE_POINTER (Result 4 ∷ Value 0 4 ∷ Id 2 ∷ []) ∷  -- %4 = OpTypePointer Workgroup %2
    inst opcode.TYPE_FUNCTION (Result 5 ∷ Id 1 ∷ Id 3 ∷ Id 4 ∷ []) ∷  -- %5 = OpTypeFunction %1 %3 %4
    inst opcode.FUNCTION (OfType 1 ∷ Result 6 ∷ Mask 0 0 ∷ Id 5 ∷ []) ∷  -- %6 = OpFunction %1 None %5
    []
