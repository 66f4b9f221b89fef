-- Conditions that are decided by the types at hand, without numbers of all types. (For the code alone.)
use Rattle.std.specs.Prelude.{ℕ, List, [], ◌∷◌, Option, Bool, true, false, ◌&&◌, IsSomeAnd}
use Rattle.spv_module.specs.Operand.{PlainInst}
use Rattle.spv_type_kinds.specs.declared.kinds.Relation.{Relation}
use Rattle.spv_type_kinds.specs.declared.kinds.Relation.TheVariants as relation
use Rattle.spv_conditions.specs.declared.asked.Asked.{Asked}
use Rattle.spv_conditions.specs.declared.asked.Asked.TheVariants as asked
use Rattle.spv_conditions.specs.declared.asked.Asks.{Asks}
use Rattle.spv_conditions.specs.declared.asked.Asks.TheVariants as asks
use Rattle.spv_conditions.specs.Asks.{HoldsOf}
use Rattle.spv_conditions.specs.Condition.{Agrees}
use Rattle.spv_conditions.specs.Values.{type_at}

-- The type t stands to the type u in a relation other than that it matches it.
abbrev pub AgreesDirectly : List PlainInst → Relation → ℕ → ℕ → Type 0
AgreesDirectly is relation.Matches t u = ⊥
AgreesDirectly is q t u = Agrees is q t u

-- A condition holds, other than that a type matches another.
abbrev pub HoldsDirectly : List PlainInst → ℕ → PlainInst → Option ℕ → List ℕ → Asked → Type 0
HoldsDirectly is n i r types (asked.Relation q s t) =
    IsSomeAnd (type_at r types s) (λ u. IsSomeAnd (type_at r types t) (AgreesDirectly is q u))
HoldsDirectly is n i r types a = HoldsOf is n i r types a

-- whether a condition is another one; whether all of a line are
abbrev pub is_direct : Asked → Bool
is_direct (asked.Relation relation.Matches s t) = false
is_direct a = true

abbrev pub are_direct : List Asks → Bool
are_direct [] = true
are_direct (asks.Once a ∷ line) = is_direct a && are_direct line
are_direct (a ∷ line) = are_direct line
