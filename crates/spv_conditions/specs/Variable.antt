-- What OpVariable asks of its storage class and its initializer. [3.49.8]
use Rattle.std.specs.Prelude.{◌≡◌, ◌≢◌, ◌⊎◌, ℕ, List, [], ◌∷◌, Option, Some, None, IsSomeAnd}
use Rattle.spv_module.specs.Operand.{Plain, Value, PlainInst}
use Rattle.spv_layout.specs.Place.{IsOfSection, IsOfFunction}
use Rattle.spv_type_forms.specs.Definitions.{IsConstant, IsGlobal}
use Rattle.spv_type_forms.specs.Form.{form_of}
use Rattle.spv_type_forms.specs.Types.{class_in}
use Rattle.spv_type_kinds.specs.Operands.{ids_in}

-- the storage class, by what follows the result
abbrev pub class_of : List Plain → Option ℕ
class_of (Value k class ∷ os) = Some class
class_of _ = None

-- the result type r is a pointer of the storage class [3.49.8]
abbrev pub HasClass : List PlainInst → Option ℕ → List Plain → Type 0
HasClass is r os = IsSomeAnd r (λ t. IsSomeAnd (class_of os) (λ class. class_in (form_of is t) ≡ Some class))

-- The variable that instruction n declares may have the storage class: in section 9, which is the 11th, neither
-- Function (7) nor Generic (8), in a function Function. [3.49.8]
abbrev pub MayHave : List PlainInst → ℕ → ℕ → Type 0
MayHave is n class = (IsOfSection is n 11 × (class ≢ 7) × (class ≢ 8)) ⊎ ((f : ℕ) × IsOfFunction is n f × (class ≡ 7))

-- the id may initialize a variable: it is a constant or a variable of section 9 [3.49.8]
abbrev pub MayInitialize : List PlainInst → ℕ → Type 0
MayInitialize is x = IsConstant is x ⊎ IsGlobal is x

-- the initializers of a variable, by what follows the result: none or one [3.49.8]
abbrev pub initializers_in : List Plain → List ℕ
initializers_in (Value k class ∷ os) = ids_in os
initializers_in _ = []
