-- Forms of instructions that came with later versions, by their parts, and instructions that went. (For the code
-- alone.)
use Rattle.std.specs.Prelude.{◌≡◌, ◌<◌, ◌≤◌, ◌⊎◌, ℕ, List, ◌∷◌, Some, Bool, IsTrue, codes, count_by, nat_eq}
use Rattle.std.specs.List.{starts_with}
use Rattle.spv_module.specs.declared.opcode.TheConstants as opcode
use Rattle.spv_module.specs.Operand.{Plain, OfType, Result, Id, Text, PlainInst}
use Rattle.spv_module.specs.Width.{type_of}
use Rattle.spv_type_forms.specs.Types.{IsBool}
use Rattle.spv_versions.specs.Missing.{SelectsWhole, is_mask}

-- the type of an id is bool
abbrev pub IsOneBool : List PlainInst → ℕ → Type 0
IsOneBool is x = (b : ℕ) × (type_of is x ≡ Some b) × IsBool is b

-- operands of an OpSelect select an array, a struct, or a vector by one bool
abbrev pub AreWhole : List PlainInst → List Plain → Type 0
AreWhole is (OfType t ∷ Result x ∷ Id c ∷ os) = SelectsWhole is t c
AreWhole is os = ⊥

-- operands of an OpExtInstImport name a set of no meaning
abbrev pub AreOfNoMeaning : List Plain → Type 0
AreOfNoMeaning (Result x ∷ Text name ∷ os) = IsTrue (starts_with nat_eq name (codes "NonSemantic."))
AreOfNoMeaning os = ⊥

-- an instruction has a form that came with a later version, or went with an earlier one
pub data HasLateForm (is : List PlainInst) (minor : ℕ) (is_without_meaning : Bool) (i : PlainInst) : Type 0 where
  two_masks : minor < 4 → (i.opcode ≡ opcode.COPY_MEMORY) ⊎ (i.opcode ≡ opcode.COPY_MEMORY_SIZED)
      → 2 ≤ count_by is_mask i.operands → HasLateForm is minor is_without_meaning i
  whole : minor < 4 → i.opcode ≡ opcode.SELECT → AreWhole is i.operands → HasLateForm is minor is_without_meaning i
  no_either : 5 < minor → i.opcode ≡ opcode.LESS_OR_GREATER → HasLateForm is minor is_without_meaning i
  no_weak : 3 < minor → i.opcode ≡ opcode.ATOMIC_COMPARE_EXCHANGE_WEAK → HasLateForm is minor is_without_meaning i
  no_meaning : IsTrue is_without_meaning → i.opcode ≡ opcode.EXT_INST_IMPORT → AreOfNoMeaning i.operands
      → HasLateForm is minor is_without_meaning i
