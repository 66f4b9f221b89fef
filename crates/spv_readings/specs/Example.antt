-- A small instruction.
use Rattle.std.specs.Prelude.{[], ◌∷◌}
use Rattle.spv_module.specs.Operand.{Result, Id, Word, PlainInst}
use Rattle.spv_module.specs.declared.opcode.TheConstants as opcode
use Rattle.spv_type_forms.specs.Example.{inst}

-- %9 = OpTypeVector %1 5
abbrev pub vector : PlainInst
vector = inst opcode.TYPE_VECTOR (Result 9 ∷ Id 1 ∷ Word 5 ∷ [])
