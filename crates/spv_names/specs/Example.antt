-- Instructions for the worked examples.
use Rattle.std.specs.Prelude.{[], ◌∷◌, codes}
use Rattle.spv_module.specs.Operand.{Id, Mask, OfType, Result, Text, Value, PlainInst}
use Rattle.spv_module.specs.declared.opcode.TheConstants.{ENTRY_POINT, FUNCTION, NAME}

-- OpEntryPoint Kernel %3 "k"
abbrev pub entry : PlainInst
entry = record { opcode = ENTRY_POINT; operands = Value 1 6 ∷ Id 3 ∷ Text (codes "k") ∷ [] }

-- OpName %3 "f"
abbrev pub name : PlainInst
name = record { opcode = NAME; operands = Id 3 ∷ Text (codes "f") ∷ [] }

-- %3 = OpFunction %1 None %2
abbrev pub function : PlainInst
function = record { opcode = FUNCTION; operands = OfType 1 ∷ Result 3 ∷ Mask 2 0 ∷ Id 2 ∷ [] }
