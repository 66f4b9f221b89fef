-- How deep structs are. [2.17]
use Rattle.std.specs.Prelude.{◌≡◌, ◌+◌, ◌<◌, ℕ, List, ◌∷◌, Some, slice_get}
use Rattle.spv_module.specs.declared.opcode.TheConstants as opcode
use Rattle.spv_module.specs.Operand.{Plain, Result, Id, PlainInst}
use Rattle.spv_ids.specs.Outcome.{IsOnly}

-- Instruction n is %t = OpTypeStruct .., with these members. [3.49.6]
pub record IsStruct (is : List PlainInst) (n t : ℕ) (members : List Plain) : Type 0 where
  pub inst : PlainInst
  pub there : slice_get is n ≡ Some inst
  pub opcode : inst.opcode ≡ opcode.TYPE_STRUCT
  pub operands : inst.operands ≡ Result t ∷ members

-- A member's type is the OpTypeStruct of instruction m. [3.49.6]
pub record IsMemberOf (is : List PlainInst) (members : List Plain) (m : ℕ) : Type 0 where
  pub place : ℕ
  pub id : ℕ
  pub named : slice_get members place ≡ Some (Id id)
  pub defined : IsOnly is id m
  pub others : List Plain
  pub struct : IsStruct is m id others

-- The OpTypeStruct of instruction n is so deep at least: it is 1 deep; and one deeper than a member that is itself an
-- OpTypeStruct. So the depth is 1, or one more than the greatest depth of such a member. [2.17]
pub data IsDeep (is : List PlainInst) : ℕ → ℕ → Type 0 where
  alone : (n t : ℕ) (members : List Plain) → IsStruct is n t members → IsDeep is n 1
  within : (n t m d : ℕ) (members : List Plain) → IsStruct is n t members → IsMemberOf is members m → IsDeep is m d
      → IsDeep is n (d + 1)

-- Each OpTypeStruct stands behind those that are types of its members, as where no rule before is broken. [2.4, 2.16]
abbrev pub AreLower : List PlainInst → Type 0
AreLower is = (n t m : ℕ) (members : List Plain) → IsStruct is n t members → IsMemberOf is members m → m < n
