-- Where the indexes of an access chain stop. (Own.)
use Rattle.std.specs.Prelude.{◌<◌, ◌+◌, ◌↔◌, ℕ, List, [], ◌∷◌, Option, Some, None, Bool, IsSome, if◌then◌else◌}
use Rattle.std.specs.Prelude.{option_map, unwrap_or}
use Rattle.spv_module.specs.Operand.{PlainInst}
use Rattle.spv_type_kinds.specs.Operands.{ids_in, after_head}
use Rattle.spv_conditions.specs.declared.chain.Stops.{Stops}
use Rattle.spv_conditions.specs.Chain.{chosen_of, led_by}

-- the number of the first index that chooses no part, from j on, where the first starts from the type t
abbrev pub stop_from : List PlainInst → ℕ → List ℕ → ℕ → Option ℕ
stop_from is j [] t = None
stop_from is j (x ∷ xs) t = unwrap_or (option_map (λ u. stop_from is (j + 1) xs u) (chosen_of is t x)) (Some j)

-- the same from what a base points to; 0 where there is nothing to start from
abbrev pub stop_of : List PlainInst → Option ℕ → Option (List ℕ) → Option ℕ
stop_of is (Some t) (Some xs) = stop_from is 0 xs t
stop_of is base indexes = Some 0

-- index k comes before the one at which they stop, or they stop at none
abbrev pub IsBefore : ℕ → Option ℕ → Type 0
IsBefore k None = Unit {0}
IsBefore k (Some j) = k < j

-- with an element before the indexes, or without
abbrev pub stop_in : Bool → Stops → Option ℕ
stop_in element s = if element then s.with_element else s.without

-- the indexes up to index k lead to a type exactly where it comes before
abbrev pub AreStops : List PlainInst → PlainInst → List ℕ → Stops → Type 0
AreStops is i types s = (element : Bool) (k : ℕ)
    → IsBefore k (stop_in element s) ↔ IsSome (led_by is element (ids_in (after_head i.operands)) types (k + 1))
