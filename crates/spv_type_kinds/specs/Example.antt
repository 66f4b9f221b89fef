-- A small instruction.
use Rattle.std.specs.Prelude.{[], ◌∷◌}
use Rattle.spv_module.specs.Operand.{OfType, Result, Id, Mask, PlainInst}
use Rattle.spv_module.specs.declared.opcode.TheConstants as opcode

-- %6 = OpFunction %1 None %5
abbrev pub function : PlainInst
function = record { opcode = opcode.FUNCTION; operands = OfType 1 ∷ Result 6 ∷ Mask 0 0 ∷ Id 5 ∷ [] }
