-- Small modules.
use Rattle.std.specs.Prelude.{List, [], ◌∷◌}
use Rattle.spv_table.specs.Table.{Table}
use Rattle.spv_module.specs.Operand.{OfType, Result, Word, Number, Value, PlainInst}
use Rattle.spv_module.specs.declared.opcode.TheConstants as opcode
use Rattle.spv_type_forms.specs.Example.{inst}

-- OpMemoryModel Physical64 OpenCL, alone
abbrev pub physical : List PlainInst
physical = inst opcode.MEMORY_MODEL (Value 3 2 ∷ Value 4 2 ∷ []) ∷ []

-- OpMemoryModel Logical OpenCL, alone
abbrev pub logical : List PlainInst
logical = inst opcode.MEMORY_MODEL (Value 3 0 ∷ Value 4 2 ∷ []) ∷ []

-- a table without kinds and instructions
abbrev pub table : Table
table = record { kinds = []; entries = [] }

-- %1 = OpTypeInt 32 0, and %2 = OpConstant %1 7
abbrev pub numbers : List PlainInst
numbers =
    inst opcode.TYPE_INT (Result 1 ∷ Word 32 ∷ Word 0 ∷ []) ∷
    inst opcode.CONSTANT (OfType 1 ∷ Result 2 ∷ Number 7 0 1 ∷ []) ∷ []
