-- What is known of the uses of an instruction. (For the code alone.)
use Rattle.std.specs.Prelude.{◌<◌, ℕ, List, [], ◌∷◌, Bool, true, false, Option, Some, None}
use Rattle.spv_table.specs.Table.{Table}
use Rattle.spv_module.specs.Operand.{Plain, OfType, Result, Id, Argument, PlainInst}
use Rattle.spv_layout.specs.declared.form.Role.{Role}
use Rattle.spv_layout.specs.Shape.{IsUse}
use Rattle.spv_ids.specs.Definition.{IsUsedAt}
use Rattle.spv_type_rules.specs.roles.Role.{Plays}

-- the id that an operand uses: not a result, and none that is named alone
abbrev pub asked_id : Plain → Option ℕ
asked_id (OfType x) = Some x
asked_id (Id x) = Some x
asked_id (Argument x) = Some x
asked_id o = None

-- operand k of the instruction is no use, or a use in its role
abbrev pub IsInRole : Table → List PlainInst → PlainInst → ℕ → Type 0
IsInRole G is i k = (x : ℕ) (r : Role) → IsUse G i k x r → Plays is r x

-- operand k of the instruction is a use that is not in its role
pub record IsMiscast (G : Table) (is : List PlainInst) (i : PlainInst) (k : ℕ) : Type 0 where
  pub id : ℕ
  pub role : Role
  pub used : IsUse G i k id role
  pub not : ¬ (Plays is role id)

-- the uses among the first operands of the instruction are in their roles
pub record AreInRoleBefore (G : Table) (is : List PlainInst) (i : PlainInst) (to : ℕ) : Type 0 where
  pub each : (k : ℕ) → k < to → IsInRole G is i k

-- some use of the instruction is not in its role
pub record HasMiscast (G : Table) (is : List PlainInst) (i : PlainInst) : Type 0 where
  pub place : ℕ
  pub miscast : IsMiscast G is i place

-- the uses of the first instructions are in their roles
pub record AreInRoleUpTo (G : Table) (is : List PlainInst) (to : ℕ) : Type 0 where
  pub each : (n k x : ℕ) (r : Role) → n < to → IsUsedAt G is n k x r → Plays is r x

-- operands are none, or a result alone
abbrev pub uses_nothing : List Plain → Bool
uses_nothing [] = true
uses_nothing (Result x ∷ []) = true
uses_nothing _ = false
