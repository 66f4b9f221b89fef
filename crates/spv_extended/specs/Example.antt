-- Small modules with extended instructions.
use Rattle.std.specs.Prelude.{ℕ, List, [], ◌∷◌, codes}
use Rattle.spv_module.specs.Operand.{Plain, OfType, Result, Id, Word, Text, PlainInst}
use Rattle.spv_module.specs.declared.opcode.TheConstants.{EXT_INST, EXT_INST_IMPORT}

-- %1 = OpExtInstImport "OpenCL.std", and %2 = OpExtInstImport "OpenCL.DebugInfo.100"
abbrev pub imports : List PlainInst
imports =
    record { opcode = EXT_INST_IMPORT; operands = Result 1 ∷ Text (codes "OpenCL.std") ∷ [] }
    ∷ record { opcode = EXT_INST_IMPORT; operands = Result 2 ∷ Text (codes "OpenCL.DebugInfo.100") ∷ [] } ∷ []

-- %9 = OpExtInst %3 %set number ..
abbrev pub call : ℕ → ℕ → List Plain → PlainInst
call set number os = record { opcode = EXT_INST; operands = OfType 3 ∷ Result 9 ∷ Id set ∷ Word number ∷ os }
