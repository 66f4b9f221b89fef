-- Small examples.
use Rattle.std.specs.Prelude.{ℕ, List, [], ◌∷◌}
use Rattle.spv_module.specs.Operand.{PlainInst}
use Rattle.spv_module.specs.declared.opcode.TheConstants as opcode
use Rattle.spv_layout.specs.Example.{bare}

-- OpMemoryModel, OpFunction, OpLabel, OpReturn, of which the operands do not matter: the OpFunctionEnd is missing
abbrev pub unended : List PlainInst
unended = bare opcode.MEMORY_MODEL ∷ bare opcode.FUNCTION ∷ bare opcode.LABEL ∷ bare opcode.RETURN ∷ []

-- OpMemoryModel, OpFunction, OpLabel, OpLoopMerge, OpLine: the line stands directly after a merge
abbrev pub merged : List PlainInst
merged = bare opcode.MEMORY_MODEL ∷ bare opcode.FUNCTION ∷ bare opcode.LABEL ∷ bare opcode.LOOP_MERGE
    ∷ bare opcode.LINE ∷ []

-- what may come after a block of a function, in order
abbrev pub after_block : List ℕ
after_block = opcode.LINE ∷ opcode.FUNCTION_END ∷ opcode.LABEL ∷ opcode.NO_LINE ∷ []

-- what may come after an OpLoopMerge
abbrev pub after_merge : List ℕ
after_merge = opcode.BRANCH ∷ opcode.BRANCH_CONDITIONAL ∷ []
