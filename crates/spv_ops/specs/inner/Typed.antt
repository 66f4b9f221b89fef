-- *Typed* by the places where the code looks for value operands. (For the code alone.)
use Rattle.std.specs.Prelude.{ℕ, List, Option, IsSomeAnd, length}
use Rattle.std.specs.List.{AllByRecursion}
use Rattle.spv_module.specs.Operand.{Plain, PlainInst}
use Rattle.spv_type_forms.specs.Values.{types_of}
use Rattle.spv_conditions.specs.declared.asked.Asks.{Asks}
use Rattle.spv_conditions.specs.Asks.{HoldsOf, conditions_in}
use Rattle.spv_ops.specs.declared.table.Places.{Places}
use Rattle.spv_ops.specs.declared.table.Places.TheVariants as places
use Rattle.spv_ops.specs.Values.{value_ids, values_of}
use Rattle.spv_ops.specs.Typed.{Typed}

-- *Typed* of the declared types of the ids that stand where the code looks for them.
abbrev pub IsTypedIn : List PlainInst → ℕ → PlainInst → Type 0
IsTypedIn is n i = IsSomeAnd (types_of is (values_of i)) (λ types. Typed is n i types)

-- What is asked of an opcode that has its values there is told without numbers of all types.
abbrev pub IsUncopied : Places → Type 0
IsUncopied places.Copied = ⊥
IsUncopied p = Unit {0}

-- The same, by a line, a result type, and what follows the result.
abbrev pub IsTypedBy : List PlainInst → ℕ → PlainInst → Places → List Asks → Option ℕ → List Plain → Type 0
IsTypedBy is n i at line r os = IsSomeAnd (types_of is (value_ids at os))
    (λ types. AllByRecursion (HoldsOf is n i r types) (conditions_in line (length types)))
