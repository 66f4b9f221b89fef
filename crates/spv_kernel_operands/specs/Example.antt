-- A small module: %1 an int of 32 bits, %2 to %7 the constants 0, 2, 3, 5, 6 and 20 of it, and %9 one that may be
-- specialized.
use Rattle.std.specs.Prelude.{ℕ, List, [], ◌∷◌}
use Rattle.spv_module.specs.declared.opcode.TheConstants as opcode
use Rattle.spv_module.specs.Operand.{OfType, Result, Id, Word, Number, Mask, PlainInst}
use Rattle.spv_type_forms.specs.Example.{inst}

-- %x = OpConstant %1 n
abbrev pub constant : ℕ → ℕ → PlainInst
constant x n = inst opcode.CONSTANT (OfType 1 ∷ Result x ∷ Number n 0 1 ∷ [])

abbrev pub small : List PlainInst
small =
    inst opcode.TYPE_INT (Result 1 ∷ Word 32 ∷ Word 0 ∷ []) ∷
    constant 2 0 ∷ constant 3 2 ∷ constant 4 3 ∷ constant 5 5 ∷ constant 6 6 ∷ constant 7 20 ∷
    inst opcode.SPEC_CONSTANT (OfType 1 ∷ Result 9 ∷ Number 5 0 1 ∷ []) ∷
    []

-- OpMemoryBarrier %s %m
abbrev pub barrier : ℕ → ℕ → PlainInst
barrier s m = inst opcode.MEMORY_BARRIER (Id s ∷ Id m ∷ [])

-- %99 = OpGroupAll %1 %s %98
abbrev pub group : ℕ → PlainInst
group s = inst opcode.GROUP_ALL (OfType 1 ∷ Result 99 ∷ Id s ∷ Id 98 ∷ [])

-- OpLoopMerge %20 %21 mask n
abbrev pub loop_merge : ℕ → ℕ → PlainInst
loop_merge mask n = inst opcode.LOOP_MERGE (Id 20 ∷ Id 21 ∷ Mask 0 mask ∷ Word n ∷ [])

-- OpBranchConditional %98 %20 %21 v w
abbrev pub weighted : ℕ → ℕ → PlainInst
weighted v w = inst opcode.BRANCH_CONDITIONAL (Id 98 ∷ Id 20 ∷ Id 21 ∷ Word v ∷ Word w ∷ [])

-- OpSwitch %3 %20 m %21 n %22
abbrev pub switch : ℕ → ℕ → PlainInst
switch m n = inst opcode.SWITCH (Id 3 ∷ Id 20 ∷ Number m 0 1 ∷ Id 21 ∷ Number n 0 1 ∷ Id 22 ∷ [])
