-- Small examples.
use Rattle.std.specs.Prelude.{List, [], ◌∷◌, ◌++◌}
use Rattle.spv_module.specs.Operand.{Plain, OfType, Result, Id, Word, PlainInst}
use Rattle.spv_module.specs.declared.opcode.TheConstants as opcode
use Rattle.spv_type_forms.specs.Example.{inst}

-- %1 = OpTypeVoid, %2 = OpUndef %1, %3 = OpFunction %1 .., %4 = OpString ..
abbrev pub few : List PlainInst
few =
    inst opcode.TYPE_VOID (Result 1 ∷ []) ∷
    inst opcode.UNDEF (OfType 1 ∷ Result 2 ∷ []) ∷
    inst opcode.FUNCTION (OfType 1 ∷ Result 3 ∷ []) ∷
    inst opcode.STRING (Result 4 ∷ []) ∷
    []

-- %1 = OpTypeSampler, %2 = OpTypeNamedBarrier, %3 = OpDecorationGroup
abbrev pub objects : List PlainInst
objects =
    inst opcode.TYPE_SAMPLER (Result 1 ∷ []) ∷
    inst opcode.TYPE_NAMED_BARRIER (Result 2 ∷ []) ∷
    inst opcode.DECORATION_GROUP (Result 3 ∷ []) ∷
    []

-- the first two of the few
abbrev pub typed : List PlainInst
typed = inst opcode.TYPE_VOID (Result 1 ∷ []) ∷ inst opcode.UNDEF (OfType 1 ∷ Result 2 ∷ []) ∷ []

-- %2 = OpUndef %5, where no instruction has the result %5
abbrev pub stray : List PlainInst
stray = inst opcode.UNDEF (OfType 5 ∷ Result 2 ∷ []) ∷ []

-- %5 = OpExtInstImport .., before the few
abbrev pub with_set : List PlainInst
with_set = inst opcode.EXT_INST_IMPORT (Result 5 ∷ []) ∷ few

-- %6 = OpExtInst %1 %5 0 and an operand more, and that after those
abbrev pub extended : Plain → PlainInst
extended o = inst opcode.EXT_INST (OfType 1 ∷ Result 6 ∷ Id 5 ∷ Word 0 ∷ o ∷ [])

abbrev pub with_extended : Plain → List PlainInst
with_extended o = with_set ++ extended o ∷ []
