-- Whether the values that an instruction uses are defined on every walk to it. [2.16, said by walks instead of
-- dominators]
use Rattle.std.specs.Prelude.{◌≡◌, ◌+◌, ℕ, List, Some, slice_get, Any}
use Rattle.spv_module.specs.declared.opcode.TheConstants as opcode
use Rattle.spv_table.specs.Table.{Table}
use Rattle.spv_module.specs.Operand.{PlainInst, type_in}
use Rattle.spv_layout.specs.declared.form.Role.{Role}
use Rattle.spv_layout.specs.declared.form.Role.TheVariants.{Value, Label}
use Rattle.spv_ids.specs.Definition.{IsDefinedAt, IsUsedAt, IsLocalTo}
use Rattle.spv_flow.specs.branches.Target.{is_opcode, is_phi, IsOp, IsLabelOf}
use Rattle.spv_flow.specs.branches.Walk.{IsWalk, IsResultAmong, IsLastLabel}

-- The id is a local value: it is local to some function f, and its definition has a result type (`OfType`). [2.16]
pub record IsLocalValue (is : List PlainInst) (x : ℕ) : Type 0 where
  pub local : (f : ℕ) × IsLocalTo is x f
  pub place : ℕ
  pub defined : IsDefinedAt is x place
  pub inst : PlainInst
  pub there : slice_get is place ≡ Some inst
  pub of_type : ℕ
  pub typed : type_in inst.operands ≡ Some of_type

-- On a walk to instruction n, no OpPhi (245), a local value that it uses is not the result of an earlier place. [2.16]
pub record IsMissing (G : Table) (is : List PlainInst) (n : ℕ) : Type 0 where
  pub other : ¬ (IsOp is n (is_opcode opcode.PHI))
  pub function : ℕ
  pub past : List ℕ
  pub walk : IsWalk G is function past n
  pub operand : ℕ
  pub id : ℕ
  pub role : Role
  pub used : IsUsedAt G is n operand id role
  pub local : IsLocalValue is id
  pub undefined : ¬ (Any (λ m. IsDefinedAt is id m) past)

-- Operands k and k + 1 of instruction n, an OpPhi, pair a value with the label of a parent. [2.16]
pub record IsPair (G : Table) (is : List PlainInst) (n value parent : ℕ) : Type 0 where
  pub operand : ℕ
  pub paired : IsUsedAt G is n operand value Value
  pub id : ℕ
  pub named : IsUsedAt G is n (operand + 1) id Label
  pub label : IsLabelOf is id parent

-- A walk to an OpPhi: its last OpLabel, that of the phi's block, the places before that, and the last OpLabel among
-- these, that of the block that the walk came from. [2.16]
pub record ComesFrom (G : Table) (is : List PlainInst) (n parent : ℕ) (before : List ℕ) : Type 0 where
  pub function : ℕ
  pub past : List ℕ
  pub walk : IsWalk G is function past n
  pub block : ℕ
  pub here : IsLastLabel is past block before
  pub earlier : List ℕ
  pub from : IsLastLabel is before parent earlier

-- On a walk to instruction n, an OpPhi (245), the value paired with the block that the walk came from is local, and not
-- the result of a place before the walk's last OpLabel. [2.16]
pub record IsPairMissing (G : Table) (is : List PlainInst) (n : ℕ) : Type 0 where
  pub phi : IsOp is n (is_opcode opcode.PHI)
  pub value : ℕ
  pub parent : ℕ
  pub before : List ℕ
  pub pair : IsPair G is n value parent
  pub comes : ComesFrom G is n parent before
  pub local : IsLocalValue is value
  pub undefined : ¬ (Any (λ m. IsDefinedAt is value m) before)

-- On every walk to instruction n each local value that it uses is the result of an earlier place; or, at an OpPhi, the
-- value paired with the block that the walk came from, if it is local, that of a place before the last OpLabel.
pub record IsReady (G : Table) (is : List PlainInst) (n : ℕ) : Type 0 where
  pub uses : ¬ (IsOp is n is_phi) → (f : ℕ) (past : List ℕ) (k x : ℕ) (r : Role) → IsWalk G is f past n
      → IsUsedAt G is n k x r → IsLocalValue is x → IsResultAmong is past x
  pub pairs : IsOp is n is_phi → (value parent : ℕ) (before : List ℕ) → IsPair G is n value parent
      → ComesFrom G is n parent before → IsLocalValue is value → IsResultAmong is before value
