-- A small list of instructions.
use Rattle.std.specs.Prelude.{ℕ, List, [], ◌∷◌, codes}
use Rattle.spv_module.specs.declared.opcode.TheConstants as opcode
use Rattle.spv_module.specs.Operand.{OfType, Result, Id, Word, Number, Text, Value, PlainInst}

-- a name, the set OpenCL.std, a float type and a constant; a function with two blocks, the second of which goes on with
-- itself
abbrev pub two_blocks : List PlainInst
two_blocks =
    record { opcode = opcode.NAME; operands = Id 3 ∷ Text (codes "one") ∷ [] } ∷
    record { opcode = opcode.EXT_INST_IMPORT; operands = Result 1 ∷ Text (codes "OpenCL.std") ∷ [] } ∷
    record { opcode = opcode.TYPE_FLOAT; operands = Result 2 ∷ Word 32 ∷ [] } ∷
    record { opcode = opcode.CONSTANT; operands = OfType 2 ∷ Result 3 ∷ Number 1065353216 0 1 ∷ [] } ∷
    record { opcode = opcode.FUNCTION; operands = OfType 2 ∷ Result 4 ∷ [] } ∷
    record { opcode = opcode.LABEL; operands = Result 5 ∷ [] } ∷
    record { opcode = opcode.BRANCH_CONDITIONAL; operands = Id 3 ∷ Id 7 ∷ Id 7 ∷ [] } ∷
    record { opcode = opcode.LABEL; operands = Result 7 ∷ [] } ∷
    record { opcode = opcode.EXT_INST; operands = OfType 2 ∷ Result 8 ∷ Id 1 ∷ Word 61 ∷ Id 3 ∷ [] } ∷
    record { opcode = opcode.BRANCH; operands = Id 7 ∷ [] } ∷
    record { opcode = opcode.FUNCTION_END; operands = [] } ∷
    []

-- an entry point of that name, which is %3
abbrev pub entry_point : List ℕ → PlainInst
entry_point name = record { opcode = opcode.ENTRY_POINT; operands = Value 0 6 ∷ Id 3 ∷ Text name ∷ [] }

-- a sum of %3 and %3
abbrev pub doubled : PlainInst
doubled = record { opcode = opcode.F_ADD; operands = OfType 2 ∷ Result 9 ∷ Id 3 ∷ Id 3 ∷ [] }
