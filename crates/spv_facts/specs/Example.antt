-- An instruction for the worked examples.
use Rattle.std.specs.Prelude.{[], ◌∷◌}
use Rattle.spv_module.specs.Operand.{Id, Result, Word, PlainInst}
use Rattle.spv_module.specs.declared.opcode.TheConstants.{TYPE_VECTOR}

-- %3 = OpTypeVector %2 4
abbrev pub vector : PlainInst
vector = record { opcode = TYPE_VECTOR; operands = Result 3 ∷ Id 2 ∷ Word 4 ∷ [] }
