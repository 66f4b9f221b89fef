-- Which numbers of kinds an instruction has, and which extensions a module declares. [3.49.4, 3.49]
use Rattle.std.specs.Prelude.{◌≡◌, ◌<◌, ◌/◌, ◌%◌, ◌^◌, ℕ, List, ◌∷◌, Some, slice_get}
use Rattle.spv_table.specs.Table.{Table}
use Rattle.spv_table.specs.Lookups.{number_named}
use Rattle.spv_module.specs.declared.opcode.TheConstants as opcode
use Rattle.spv_module.specs.Operand.{Plain, Text, Value, Mask, PlainInst}
use Rattle.spv_versions.specs.declared.table.Kind.{Kind}
use Rattle.spv_versions.specs.declared.table.Kind.TheVariants as kind
use Rattle.spv_versions.specs.Table.{name_of}

-- Some OpExtension of the module has that name. [3.49.4]
pub record IsDeclared (is : List PlainInst) (name : List ℕ) : Type 0 where
  pub place : ℕ
  pub inst : PlainInst
  pub there : slice_get is place ≡ Some inst
  pub opcode : inst.opcode ≡ opcode.EXTENSION
  pub rest : List Plain
  pub operands : inst.operands ≡ Text name ∷ rest

-- v is the number of one bit, and that bit is set in a mask. [2.3]
abbrev pub IsSetBit : ℕ → ℕ → Type 0
IsSetBit m v = (position : ℕ) × (position < 32) × (m / 2 ^ position % 2 ≡ 1) × (v ≡ 2 ^ position)

-- The instruction has the number of a kind: it is its opcode; or a value of that kind among its operands, or a set bit
-- of a mask of that kind. The kind is that of its name in the table. [3, 3.49]
pub data HasNumber (G : Table) (i : PlainInst) : Kind → ℕ → Type 0 where
  of_opcode : HasNumber G i kind.Opcode i.opcode
  of_value : (k : Kind) (place j v : ℕ) (name : List ℕ) → slice_get i.operands place ≡ Some (Value j v)
      → name_of k ≡ Some name → number_named G name ≡ Some j → HasNumber G i k v
  of_bit : (k : Kind) (place j m v : ℕ) (name : List ℕ) → slice_get i.operands place ≡ Some (Mask j m)
      → name_of k ≡ Some name → number_named G name ≡ Some j → IsSetBit m v → HasNumber G i k v
