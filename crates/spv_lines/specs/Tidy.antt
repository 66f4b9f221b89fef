-- Tables in which results stand in patterns alone, as rule J6 asks of a file. (Own.)
use Rattle.std.specs.Prelude.{◌≡◌, ℕ, List, false}
use Rattle.std.specs.List.{AllByRecursion}
use Rattle.spv_table.specs.Table.{Table}
use Rattle.spv_module.specs.Operand.{Plain, Context}
use Rattle.spv_module.specs.Shape.{Slot, AsParts, shape_of}
use Rattle.spv_module.specs.Spelling.{Takes}
use Rattle.spv_lines.specs.Fault.{is_result_shape}

-- none of the slots is one of a result
abbrev pub AreNoResults : Table → List Slot → Type 0
AreNoResults G ss = AllByRecursion (λ s. (c : Context) → is_result_shape (shape_of G c s) ≡ false) ss

-- No parameter and no base is of a result kind.
pub record IsTidy (G : Table) : Type 0 where
  pub parameters : (c : Context) (s : Slot) (o : Plain) (ws : List ℕ) (ss : List Slot)
      → Takes s.kind (shape_of G c s) o ws ss → AreNoResults G ss
  pub bases : (c : Context) (s : Slot) (ss : List Slot) → shape_of G c s ≡ AsParts ss → AreNoResults G ss
