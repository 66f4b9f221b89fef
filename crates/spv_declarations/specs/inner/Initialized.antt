-- OpVariables with initializers, and what is imported. (For the code alone.)
use Rattle.std.specs.Prelude.{if◌then◌else◌, ◌≡◌, ◌⊎◌, ℕ, List, ◌∷◌, Option, Some, None, nat_eq}
use Rattle.std.specs.BTreeSet.{BTreeSet}
use Rattle.spv_module.specs.declared.opcode.TheConstants as opcode
use Rattle.spv_module.specs.Operand.{Plain, OfType, Result, Id, Value, PlainInst}
use Rattle.spv_declarations.specs.inner.Sets.{IsIn}

-- %x = OpVariable %t class %initializer: the id and the class
abbrev pub initialized_in : List Plain → Option (ℕ × ℕ)
initialized_in (OfType t ∷ Result x ∷ Value k class ∷ Id initializer ∷ os) = Some (x, class)
initialized_in _ = None

abbrev pub initialized_by : PlainInst → Option (ℕ × ℕ)
initialized_by i = if nat_eq i.opcode opcode.VARIABLE then initialized_in i.operands else None

-- an OpVariable with an initializer is of Input (1), or among those that are imported
abbrev pub IsOutside : BTreeSet ℕ → PlainInst → Type 0
IsOutside imported i = (x class : ℕ) × (initialized_by i ≡ Some (x, class)) × ((class ≡ 1) ⊎ IsIn imported x)
