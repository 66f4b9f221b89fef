-- The variables that have to be in the interface where they are used. (For the code alone.)
use Rattle.std.specs.Prelude.{◌≤◌, ◌<◌, ℕ, List, Option, option_and_then}
use Rattle.spv_module.specs.Operand.{PlainInst}
use Rattle.spv_module.specs.Width.{type_of}
use Rattle.spv_type_forms.specs.Definitions.{IsGlobal}
use Rattle.spv_type_forms.specs.Form.{form_of}
use Rattle.spv_type_forms.specs.Types.{class_in}
use Rattle.spv_interfaces.specs.Interface.{IsOutside}

-- the storage class of a pointer, by its type
abbrev pub class_of : List PlainInst → ℕ → Option ℕ
class_of is x = class_in (option_and_then (form_of is) (type_of is x))

-- From 1.4 on each variable; before, one of Input or Output.
pub data IsWanted (minor : ℕ) (is : List PlainInst) (x : ℕ) : Type 0 where
  any : 4 ≤ minor → IsGlobal is x → IsWanted minor is x
  outside : minor < 4 → IsOutside is x → IsWanted minor is x
