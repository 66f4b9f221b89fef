-- A small table, and small modules.
use Rattle.std.specs.Prelude.{ℕ, List, [], ◌∷◌, codes}
use Rattle.spv_table.specs.declared.table.Category.TheVariants.{ValueEnum, BitEnum}
use Rattle.spv_table.specs.declared.table.Enumerant.{Enumerant}
use Rattle.spv_table.specs.Table.{Sort, Table}
use Rattle.spv_module.specs.Operand.{Plain, OfType, Result, Id, Word, Text, Value, Mask, PlainInst}
use Rattle.spv_module.specs.declared.opcode.TheConstants as opcode

abbrev pub enumerant : List ℕ → ℕ → List (List ℕ) → Enumerant
enumerant name value names = record { name = name; value = value; parameters = []; capabilities = names }

-- Capability (kind 0): Linkage 5, Kernel 6, and Vector16 7, which lists Kernel
abbrev pub capabilities : List Enumerant
capabilities = enumerant (codes "Linkage") 5 [] ∷ enumerant (codes "Kernel") 6 [] ∷ enumerant (codes "Vector16") 7
    (codes "Kernel" ∷ []) ∷ []

-- MemoryAccess (kind 1): None 0 lists Linkage, Volatile (bit 1) Linkage and Kernel, Nontemporal (bit 4) a name that no
-- capability bears
abbrev pub accesses : List Enumerant
accesses =
    enumerant (codes "None") 0 (codes "Linkage" ∷ []) ∷ enumerant (codes "Volatile") 1
    (codes "Linkage" ∷ codes "Kernel" ∷ []) ∷ enumerant (codes "Nontemporal") 4 (codes "Unknown" ∷ []) ∷ []

abbrev pub value_kind : List ℕ → List Enumerant → Sort
value_kind name es = record { kind = record { name = name; category = ValueEnum; bases = [] }; enumerants = es }

-- LinkageType is kind 2. OpTypeOpaque (31) lists Kernel.
abbrev pub small : Table
small = record {
  kinds =
      value_kind (codes "Capability") capabilities ∷
      record { kind = record { name = codes "MemoryAccess"; category = BitEnum; bases = [] }; enumerants = accesses }
      ∷
      value_kind (codes "LinkageType") [] ∷
      [];
  entries = (31, record { name = codes "OpTypeOpaque"; operands = []; capabilities = codes "Kernel" ∷ [] }) ∷ [];
}

abbrev pub inst : ℕ → List Plain → PlainInst
inst opcode operands = record { opcode = opcode; operands = operands }

-- OpCapability Vector16
abbrev pub vectors : List PlainInst
vectors = inst opcode.CAPABILITY (Value 0 7 ∷ []) ∷ []

-- OpCapability ImageBasic, which the table has not
abbrev pub images : List PlainInst
images = inst opcode.CAPABILITY (Value 0 13 ∷ []) ∷ []

-- an image type of an access qualifier
abbrev pub image_type : ℕ → PlainInst
image_type access = inst opcode.TYPE_IMAGE
    (Result 2 ∷ Id 1 ∷ Value 10 1 ∷ Word 0 ∷ Word 0 ∷ Word 0 ∷ Word 0 ∷ Value 11 0 ∷ Value 12 access ∷ [])

-- OpCapability Linkage
abbrev pub linked : List PlainInst
linked = inst opcode.CAPABILITY (Value 0 5 ∷ []) ∷ []

-- OpEntryPoint Kernel %3 "k"
abbrev pub entry : PlainInst
entry = inst opcode.ENTRY_POINT (Value 9 6 ∷ Id 3 ∷ Text (codes "k") ∷ [])

-- a function that returns void, without an entry point
abbrev pub void_function : List PlainInst
void_function =
    inst opcode.TYPE_VOID (Result 1 ∷ []) ∷  -- %1 = OpTypeVoid
    inst opcode.FUNCTION (OfType 1 ∷ Result 3 ∷ Mask 8 0 ∷ Id 2 ∷ []) ∷  -- %3 = OpFunction %1 None %2
    inst opcode.LABEL (Result 4 ∷ []) ∷  -- %4 = OpLabel
    []

-- the same with one
abbrev pub kernel : List PlainInst
kernel = entry ∷ void_function

-- and with a call of it: %6 = OpFunctionCall %1 %3
abbrev pub called : List PlainInst
called = inst opcode.FUNCTION_CALL (OfType 1 ∷ Result 6 ∷ Id 3 ∷ []) ∷ kernel

-- a declaration, which is decorated by a linkage type: OpDecorate %3 LinkageAttributes "f" and %3 = OpFunction %1 None
-- %2
abbrev pub declaration : ℕ → List PlainInst
declaration type =
    inst opcode.DECORATE (Id 3 ∷ Value 7 41 ∷ Text (codes "f") ∷ Value 2 type ∷ []) ∷
    inst opcode.FUNCTION (OfType 1 ∷ Result 3 ∷ Mask 8 0 ∷ Id 2 ∷ []) ∷
    inst opcode.FUNCTION_END [] ∷
    []
