-- The value operands of an instruction, one by one. (For the code alone.)
use Rattle.std.specs.Prelude.{◌≡◌, ◌≤◌, ◌++◌, length, ℕ, List, map, drop, Option, Some, Bool, true, false}
use Rattle.std.specs.Prelude.{option_to_list, slice_get}
use Rattle.std.specs.List.{AllByRecursion}
use Rattle.spv_table.specs.Table.{Table}
use Rattle.spv_module.specs.Operand.{Plain, Id, PlainInst}
use Rattle.spv_module.specs.Width.{type_of}
use Rattle.spv_layout.specs.declared.form.Form.{Form}
use Rattle.spv_layout.specs.declared.form.Form.TheVariants as form
use Rattle.spv_layout.specs.declared.form.Role.{Role}
use Rattle.spv_layout.specs.declared.form.Role.TheVariants as role
use Rattle.spv_layout.specs.Shape.{HasForms}
use Rattle.spv_readings.specs.declared.values.Value.{Value}
use Rattle.spv_readings.specs.Values.{types_in}
use Rattle.spv_type_forms.specs.Values.{value_in, used_in, types_of}

abbrev pub is_value : Option Role → Bool
is_value (Some role.Value) = true
is_value _ = false

-- operand k is an id that is used as a value, or there is none
abbrev pub IsValueAt : Table → PlainInst → ℕ → Option ℕ → Type 0
IsValueAt G i k r =
    (fs : List Form) → HasForms G i fs → (f : Form) (o : Plain) → slice_get fs k ≡ Some f
    → slice_get i.operands k ≡ Some o → value_in f o ≡ option_to_list r

-- Each id that the instruction uses as a value is declared with a type.
pub record IsTypeable (G : Table) (is : List PlainInst) (i : PlainInst) : Type 0 where
  pub forms : List Form
  pub has : HasForms G i forms
  pub each : (k x : ℕ) → slice_get forms k ≡ Some (form.Id role.Value) → slice_get i.operands k ≡ Some (Id x)
      → (u : ℕ) × (type_of is x ≡ Some u)

-- These are the values among the first k operands, each with its number and its type.
pub record AreSoFar (is : List PlainInst) (i : PlainInst) (k : ℕ) (vs : List Value) : Type 0 where
  pub rest : (G : Table) (fs : List Form) → HasForms G i fs
      → map (λ v. v.id) vs ++ used_in (drop k fs) (drop k i.operands) ≡ used_in fs i.operands
  pub types : types_of is (map (λ v. v.id) vs) ≡ Some (types_in vs)
  pub few : length vs ≤ k
  pub each : AllByRecursion (λ v. slice_get i.operands v.operand ≡ Some (Id v.id)) vs
