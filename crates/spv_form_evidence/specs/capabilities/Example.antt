-- Small modules.
use Rattle.std.specs.Prelude.{ℕ, List, [], ◌∷◌}
use Rattle.spv_module.specs.Operand.{OfType, Result, Id, Value, Mask, PlainInst}
use Rattle.spv_module.specs.declared.opcode.TheConstants as opcode
use Rattle.spv_capabilities.specs.Example.{inst}

-- OpCapability Vector16, and OpLoad %1 %4 with the MemoryAccess Volatile (1) and Nontemporal (4)
abbrev pub loading : List PlainInst
loading = inst opcode.CAPABILITY (Value 0 7 ∷ [])
    ∷ inst opcode.LOAD (OfType 1 ∷ Result 5 ∷ Id 4 ∷ Mask 1 5 ∷ []) ∷ []

-- an OpCapability of that number, and OpMemoryModel Physical32 (1) Simple (0)
abbrev pub simple : ℕ → List PlainInst
simple c = inst opcode.CAPABILITY (Value 0 c ∷ [])
    ∷ inst opcode.MEMORY_MODEL (Value 3 1 ∷ Value 4 0 ∷ []) ∷ []
