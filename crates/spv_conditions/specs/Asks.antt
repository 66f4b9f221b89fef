-- The conditions that a line of the table of types asks, where there are so many values. [own: Y5]
use Rattle.std.specs.Prelude.{◌+◌, ◌-◌, ◌++◌, ℕ, zero, suc, List, [], ◌∷◌, Option, Bool}
use Rattle.spv_module.specs.Operand.{PlainInst}
use Rattle.spv_type_kinds.specs.declared.kinds.Kind.TheVariants.{Int}
use Rattle.spv_type_kinds.specs.declared.kinds.Relation.TheVariants.{Same}
use Rattle.spv_conditions.specs.declared.seat.Seat.TheVariants.{Result, Value}
use Rattle.spv_conditions.specs.declared.asked.Rest.TheVariants as rest
use Rattle.spv_conditions.specs.declared.asked.Asked.{Asked}
use Rattle.spv_conditions.specs.declared.asked.Asked.TheVariants as asked
use Rattle.spv_conditions.specs.declared.asked.Each.{Each}
use Rattle.spv_conditions.specs.declared.asked.Each.TheVariants as each
use Rattle.spv_conditions.specs.declared.asked.Asks.{Asks}
use Rattle.spv_conditions.specs.declared.asked.Asks.TheVariants as asks
use Rattle.spv_conditions.specs.Chain.{first_index}
use Rattle.spv_conditions.specs.Condition.{Holds}
use Rattle.spv_conditions.specs.Rest.{RestHolds}

-- the condition of value k [3.49.12 OpCompositeConstruct; 3.49.17 OpPhi]
abbrev pub of_each : Each → ℕ → Asked
of_each each.Same k = asked.Relation Same (Value k) Result
of_each each.Share k = asked.Rest (rest.Share k)
of_each each.Part k = asked.Rest (rest.Part k)

-- that of each of n values from value k on
abbrev pub each_from : Each → ℕ → ℕ → List Asked
each_from e k zero = []
each_from e k (suc n) = of_each e k ∷ each_from e (k + 1) n

-- each of n values from value k on is an index of an access chain: an int that leads to a part [3.49.8]
abbrev pub indexes_from : Bool → ℕ → ℕ → List Asked
indexes_from element k zero = []
indexes_from element k (suc n) = asked.Kind Int (Value k)
    ∷ asked.Rest (rest.Chosen element (k - first_index element)) ∷ indexes_from element (k + 1) n

-- what one part of a line asks of n values, and what all parts ask
abbrev pub asked_by : Asks → ℕ → List Asked
asked_by (asks.Once a) n = a ∷ []
asked_by (asks.Each e) n = each_from e 0 n
asked_by (asks.Indexes element) n = indexes_from element (first_index element) (n - first_index element)

abbrev pub conditions_in : List Asks → ℕ → List Asked
conditions_in [] n = []
conditions_in (a ∷ others) n = asked_by a n ++ conditions_in others n

-- A condition holds at the instruction i of number n, of its result type r, if it has one, and of the types of its
-- value operands in order. [own: Y5]
abbrev pub HoldsOf : List PlainInst → ℕ → PlainInst → Option ℕ → List ℕ → Asked → Type 0
HoldsOf is n i r types a = Holds is (RestHolds is n i r types) r types a
