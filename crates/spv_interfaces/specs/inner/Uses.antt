-- Uses of variables in definitions. (For the code alone.)
use Rattle.std.specs.Prelude.{◌≡◌, ◌<◌, ◌⊎◌, ◌↔◌, ℕ, List, Option, Some, slice_get}
use Rattle.spv_table.specs.Table.{Table}
use Rattle.spv_module.specs.Operand.{PlainInst}
use Rattle.spv_layout.specs.declared.form.Role.{Role}
use Rattle.spv_layout.specs.Place.{IsDefinition, IsOfFunction}
use Rattle.spv_layout.specs.Shape.{FitsShape, IsUse}
use Rattle.spv_ids.specs.Definition.{IsDefinedAt, IsUsedAt}
use Rattle.spv_interfaces.specs.declared.used.Use.{Use}
use Rattle.spv_interfaces.specs.inner.Wanted.{IsWanted}

-- Some use of the list is of the variable, by its OpVariable, in the definition, by its OpFunction.
pub record HasUse (uses : List Use) (f v : ℕ) : Type 0 where
  pub place : ℕ
  pub use_there : Use
  pub there : slice_get uses place ≡ Some use_there
  pub function : use_there.function ≡ f
  pub variable : use_there.variable ≡ v

-- the new list has the uses of the old one, and those of which something is so
abbrev pub AddsUses : (ℕ → ℕ → Type 0) → List Use → List Use → Type 0
AddsUses P old new = (f v : ℕ) → HasUse new f v ↔ (HasUse old f v ⊎ P f v)

-- What is noted last at a variable is of the list.
pub record AreNoted (last : List (Option ℕ)) (uses : List Use) : Type 0 where
  pub each : (v f : ℕ) → slice_get last v ≡ Some (Some f) → HasUse uses f v

-- The instruction is in the definition.
pub record IsInDefinition (is : List PlainInst) (n f : ℕ) : Type 0 where
  pub of : IsOfFunction is n f
  pub definition : IsDefinition is f

-- The OpVariable v defines the id, which has to be in the interface where it is used.
pub record IsVariable (minor : ℕ) (is : List PlainInst) (x v : ℕ) : Type 0 where
  pub defined : IsDefinedAt is x v
  pub wanted : IsWanted minor is x

-- One of the first operands of the instruction uses the variable.
pub record UsesBefore (G : Table) (minor : ℕ) (is : List PlainInst) (inst : PlainInst) (to v : ℕ) : Type 0 where
  pub operand : ℕ
  pub below : operand < to
  pub id : ℕ
  pub role : Role
  pub used : IsUse G inst operand id role
  pub variable : IsVariable minor is id v

-- One of the instructions before `to` is of the definition and uses the variable.
pub record IsUsedIn (G : Table) (minor : ℕ) (is : List PlainInst) (to f v : ℕ) : Type 0 where
  pub inst : ℕ
  pub below : inst < to
  pub within : IsInDefinition is inst f
  pub operand : ℕ
  pub id : ℕ
  pub role : Role
  pub used : IsUsedAt G is inst operand id role
  pub variable : IsVariable minor is id v

-- Each instruction fits its row.
pub record Fit (G : Table) (is : List PlainInst) : Type 0 where
  pub each : (n : ℕ) (i : PlainInst) → slice_get is n ≡ Some i → FitsShape G i

-- These are the uses in the instructions before `to`.
pub record AreUses (G : Table) (minor : ℕ) (is : List PlainInst) (to : ℕ) (uses : List Use) : Type 0 where
  pub each : (f v : ℕ) → HasUse uses f v ↔ IsUsedIn G minor is to f v
