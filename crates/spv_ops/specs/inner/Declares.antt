-- What OpVariable asks, as a whole. (For the code alone, and for laws.) [3.49.8]
use Rattle.std.specs.Prelude.{◌≡◌, ℕ, List, ◌∷◌, Some}
use Rattle.std.specs.List.{AllByRecursion}
use Rattle.spv_module.specs.Operand.{Plain, Value, PlainInst}
use Rattle.spv_type_forms.specs.Form.{form_of}
use Rattle.spv_type_forms.specs.Types.{class_in, PointsTo}
use Rattle.spv_type_kinds.specs.Operands.{ids_in}
use Rattle.spv_conditions.specs.Variable.{MayHave, MayInitialize}

-- r is a pointer of the storage class of the variable that instruction n declares, which it may have; its initializer
-- may be one, and has the type that r points to. [3.49.8]
abbrev pub DeclaresVariable : List PlainInst → ℕ → ℕ → List Plain → List ℕ → Type 0
DeclaresVariable is n r (Value k class ∷ os) types = (class_in (form_of is r) ≡ Some class)
    × MayHave is n class × AllByRecursion (MayInitialize is) (ids_in os) × AllByRecursion (PointsTo is r) types
DeclaresVariable is n r _ types = ⊥
