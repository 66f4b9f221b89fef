-- The function that is chosen by its id or by its name.
use Rattle.std.specs.Prelude.{◌≡◌, ◌≢◌, ◌&&◌, ℕ, List, Some, Bool, true, nat_eq, Result, Ok, Err}
use Rattle.std.specs.List.{list_any}
use Rattle.spv_table.specs.Lookups.{is_number}
use Rattle.spv_module.specs.Operand.{PlainInst, result_in}
use Rattle.spv_module.specs.declared.opcode.TheConstants.{FUNCTION}
use Rattle.spv_names.specs.Names.{function_name}
use Rattle.spv_names.specs.declared.chosen.Chosen.{Chosen}
use Rattle.spv_names.specs.declared.chosen.Chosen.TheVariants.{Id, Name}
use Rattle.spv_names.specs.declared.chosen.NameError.{NameError}
use Rattle.spv_names.specs.declared.chosen.NameError.TheVariants.{Absent, Several}

-- is an instruction an OpFunction that defines the id [3.49.9]
abbrev pub is_function : ℕ → PlainInst → Bool
is_function x i = nat_eq i.opcode FUNCTION && is_number x (result_in i.operands)

-- The id is that of a function, and the text is its name. [own]
pub record IsNamedFunction (is : List PlainInst) (t : List ℕ) (x : ℕ) : Type 0 where
  pub defined : list_any (is_function x) is ≡ true
  pub name : function_name is x ≡ Some t

-- The id is that of the only function with the name, or there is no such function, or there are two.
abbrev pub IsOfName : List PlainInst → List ℕ → Result ℕ NameError → Type 0
IsOfName is t (Ok x) = IsNamedFunction is t x × ((y : ℕ) → IsNamedFunction is t y → y ≡ x)
IsOfName is t (Err Absent) = (x : ℕ) → ¬ (IsNamedFunction is t x)
IsOfName is t (Err Several) = (x : ℕ) × (y : ℕ) × IsNamedFunction is t x × IsNamedFunction is t y × (x ≢ y)

-- An id that is chosen is taken as it is.
abbrev pub IsChosen : List PlainInst → Chosen → Result ℕ NameError → Type 0
IsChosen is (Id n) r = r ≡ Ok n
IsChosen is (Name t) r = IsOfName is t.now r
