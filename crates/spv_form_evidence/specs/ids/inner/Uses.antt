-- The uses of an instruction, operand by operand. (For the code alone.)
use Rattle.std.specs.Prelude.{◌≡◌, ℕ, List, Option, Some, None, slice_get}
use Rattle.spv_table.specs.Table.{Table}
use Rattle.spv_module.specs.Operand.{Plain, Mention, PlainInst}
use Rattle.spv_layout.specs.declared.form.Role.{Role}
use Rattle.spv_layout.specs.Shape.{FitsShape, IsUse}
use Rattle.spv_form_evidence.specs.declared.ids.uses.Use.{Use}

-- Each instruction fits its row.
pub record AreFit (G : Table) (is : List PlainInst) : Type 0 where
  pub each : (n : ℕ) (i : PlainInst) → slice_get is n ≡ Some i → FitsShape G i

-- Operand k of the instruction is that use, or where there is none it is no use.
abbrev pub IsUseOf : Table → PlainInst → ℕ → Option Use → Type 0
IsUseOf G i k None = (x : ℕ) (r : Role) → ¬ (IsUse G i k x r)
IsUseOf G i k (Some u) = IsUse G i k u.id u.role

-- Operand k of the instruction is a use of which something holds, by its id and role.
pub record HasUse (G : Table) (i : PlainInst) (P : ℕ → Role → Type 0) (k : ℕ) : Type 0 where
  pub id : ℕ
  pub role : Role
  pub used : IsUse G i k id role
  pub holds : P id role

-- the id that an operand mentions, if it is one that does
abbrev pub mention_in : Option Plain → Option ℕ
mention_in (Some (Mention x)) = Some x
mention_in o = None

-- Operand k of the instruction uses the id, in whatever role, or mentions it.
pub data IsNamedAt (G : Table) (i : PlainInst) (k x : ℕ) : Type 0 where
  as_use : (r : Role) → IsUse G i k x r → IsNamedAt G i k x
  as_mention : slice_get i.operands k ≡ Some (Mention x) → IsNamedAt G i k x

-- Operand k of the instruction uses or mentions an id of which something holds.
pub record HasNamed (G : Table) (i : PlainInst) (P : ℕ → Type 0) (k : ℕ) : Type 0 where
  pub id : ℕ
  pub named : IsNamedAt G i k id
  pub holds : P id
