-- O22: where a limit is passed. [2.17]
use Rattle.std.specs.Prelude.{◌≡◌, ◌<◌, ◌≤◌, ◌-◌, ℕ, List, ◌∷◌, Some, true, slice_get, length}
use Rattle.spv_module.specs.declared.opcode.TheConstants as opcode
use Rattle.spv_module.specs.Operand.{Plain, OfType, Result, Id, Word, Text, PlainInst}
use Rattle.spv_extended.specs.declared.set.Set.TheVariants.{OpenClStd}
use Rattle.spv_extended.specs.Sets.{set_in}
use Rattle.spv_ids.specs.Order.{HasOpcode}
use Rattle.spv_limits.specs.declared.table.Limit.TheVariants as limit
use Rattle.spv_limits.specs.Counted.{argument_count, before_indexes, character_count, is_variable, locals_before}
use Rattle.spv_limits.specs.Counted.{member_count, modes_before, pair_count, parameter_count, sets_mode}
use Rattle.spv_limits.specs.Counted.{variables_before}
use Rattle.spv_limits.specs.Depth.{IsDeep}
use Rattle.spv_limits.specs.Table.{most}

-- Some OpFunction stands before instruction n. [2.4]
abbrev pub IsInFunctions : List PlainInst → ℕ → Type 0
IsInFunctions is n = (f : ℕ) × (f < n) × HasOpcode is f opcode.FUNCTION

-- The instruction i of number n passes a limit. [2.17]
pub data Passes (is : List PlainInst) (n : ℕ) (i : PlainInst) : Type 0 where
  -- characters of a text
  text : (place : ℕ) (t : List ℕ) → slice_get i.operands place ≡ Some (Text t)
      → most limit.Characters < character_count t → Passes is n i
  members : i.opcode ≡ opcode.TYPE_STRUCT → most limit.Members < member_count i.operands → Passes is n i
  depth : (d : ℕ) → IsDeep is n d → most limit.Depth < d → Passes is n i
  parameters : i.opcode ≡ opcode.TYPE_FUNCTION → most limit.Parameters < parameter_count i.operands → Passes is n i
  indexes : (front : ℕ) → before_indexes i.opcode ≡ Some front → most limit.Indexes < length i.operands - front
      → Passes is n i
  pairs : i.opcode ≡ opcode.SWITCH → most limit.Pairs < pair_count i.operands → Passes is n i
  -- those of an instruction of OpenCL.std
  arguments : (t x set number : ℕ) (os : List Plain) → i.opcode ≡ opcode.EXT_INST
      → i.operands ≡ OfType t ∷ Result x ∷ Id set ∷ Word number ∷ os → set_in is set ≡ OpenClStd
      → most limit.Arguments < argument_count i.operands → Passes is n i
  -- execution modes of one function
  modes : (f : ℕ) → sets_mode f i ≡ true → most limit.Modes ≤ modes_before is f n → Passes is n i
  -- variables of section 9, and in functions
  globals : is_variable i ≡ true → ¬ (IsInFunctions is n) → most limit.Globals ≤ variables_before is n → Passes is n i
  locals : is_variable i ≡ true → IsInFunctions is n → most limit.Locals ≤ locals_before is n → Passes is n i

abbrev pub IsPast : List PlainInst → ℕ → Type 0
IsPast is n = (i : PlainInst) × (slice_get is n ≡ Some i) × Passes is n i
