-- Blocks that stand before one that dominates them, and uses that stand before the definition. [2.2.5, 2.16.1]
use Rattle.std.specs.Prelude.{◌<◌, ℕ, List, Contains}
use Rattle.spv_table.specs.Table.{Table}
use Rattle.spv_module.specs.Operand.{PlainInst}
use Rattle.spv_layout.specs.declared.form.Role.{Role}
use Rattle.spv_layout.specs.Place.{IsOfBlock}
use Rattle.spv_ids.specs.Definition.{IsDefinedAt, IsUsedAt}
use Rattle.spv_flow.specs.branches.Target.{is_label, is_phi, IsOp}
use Rattle.spv_flow.specs.branches.Walk.{IsWalk}
use Rattle.spv_flow.specs.branches.Ready.{IsLocalValue}

-- A block goes by its OpLabel. In the function whose OpFunction is f, block b is on the way to block c: some walk ends
-- at c, and on each that does b comes before. [2.2.5, dominate]
pub record IsOnTheWay (G : Table) (is : List PlainInst) (f b c : ℕ) : Type 0 where
  pub past : List ℕ
  pub walk : IsWalk G is f past c
  pub each : (other : List ℕ) → IsWalk G is f other c → Contains other b

-- Instruction n is an OpLabel (248), and in function f a block that stands higher is on the way to its block. [2.16.1,
-- order of blocks]
pub record IsEarlyIn (G : Table) (is : List PlainInst) (f n : ℕ) : Type 0 where
  pub label : IsOp is n is_label
  pub block : ℕ
  pub named : IsOp is block is_label
  pub higher : n < block
  pub way : IsOnTheWay G is f block n

-- It is so in some function.
abbrev pub IsEarlyBlock : Table → List PlainInst → ℕ → Type 0
IsEarlyBlock G is n = (f : ℕ) × IsEarlyIn G is f n

-- Instruction n is of a block, and no OpPhi (245), and it uses a local value that no lower instruction has as its
-- result. [2.16.1, SSA]
pub record IsEarlyUse (G : Table) (is : List PlainInst) (n : ℕ) : Type 0 where
  pub block : ℕ
  pub of : IsOfBlock is n block
  pub other : ¬ (IsOp is n is_phi)
  pub operand : ℕ
  pub id : ℕ
  pub role : Role
  pub used : IsUsedAt G is n operand id role
  pub local : IsLocalValue is id
  pub undefined : (m : ℕ) → m < n → ¬ (IsDefinedAt is id m)
