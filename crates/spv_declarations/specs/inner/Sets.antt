-- What is gathered of instructions in sets. (For the code alone.)
use Rattle.std.specs.Prelude.{◌≡◌, ◌↔◌, ◌<◌, ◌⊎◌, ℕ, List, [], ◌∷◌, Some, IsTrue, slice_get}
use Rattle.std.specs.BTreeSet.{BTreeSet, contains}
use Rattle.std.specs.Ordering.{nat_cmp, ordering_then}
use Rattle.std.specs.declared.cmp.Ordering.{Ordering}
use Rattle.spv_module.specs.Operand.{Plain, Id, PlainInst}

-- the order of pairs
abbrev pub pair_cmp : ℕ × ℕ → ℕ × ℕ → Ordering
pair_cmp x y = ordering_then (nat_cmp x.0 y.0) (nat_cmp x.1 y.1)

-- the set has a number; a pair
abbrev pub IsIn : BTreeSet ℕ → ℕ → Type 0
IsIn s x = IsTrue (contains nat_cmp s x)

abbrev pub HasBoth : BTreeSet (ℕ × ℕ) → ℕ → ℕ → Type 0
HasBoth s x y = IsTrue (contains pair_cmp s (x, y))

-- the new set has what the old one had, and the numbers of which something is so
abbrev pub Adds : (ℕ → Type 0) → BTreeSet ℕ → BTreeSet ℕ → Type 0
Adds P old new = (x : ℕ) → IsIn new x ↔ (IsIn old x ⊎ P x)

abbrev pub AddsBoth : (ℕ → ℕ → Type 0) → BTreeSet (ℕ × ℕ) → BTreeSet (ℕ × ℕ) → Type 0
AddsBoth P old new = (x y : ℕ) → HasBoth new x y ↔ (HasBoth old x y ⊎ P x y)

-- some instruction is such a one; one before `to` is
abbrev pub IsSaid : List PlainInst → (PlainInst → Type 0) → Type 0
IsSaid is P = (n : ℕ) × (i : PlainInst) × (slice_get is n ≡ Some i) × P i

abbrev pub IsSaidBefore : ℕ → List PlainInst → (PlainInst → Type 0) → Type 0
IsSaidBefore to is P = (n : ℕ) × (i : PlainInst) × (n < to) × (slice_get is n ≡ Some i) × P i

-- the set has the numbers of which some instruction before `to` says something; just those of which one does
abbrev pub Gathers : ℕ → List PlainInst → (PlainInst → ℕ → Type 0) → BTreeSet ℕ → Type 0
Gathers to is Says s = (x : ℕ) → IsIn s x ↔ IsSaidBefore to is (λ i. Says i x)

abbrev pub HasAll : List PlainInst → (PlainInst → ℕ → Type 0) → BTreeSet ℕ → Type 0
HasAll is Says s = (x : ℕ) → IsIn s x ↔ IsSaid is (λ i. Says i x)

abbrev pub GathersBoth : ℕ → List PlainInst → (PlainInst → ℕ → ℕ → Type 0) → BTreeSet (ℕ × ℕ) → Type 0
GathersBoth to is Says s = (x y : ℕ) → HasBoth s x y ↔ IsSaidBefore to is (λ i. Says i x y)

abbrev pub HasAllBoth : List PlainInst → (PlainInst → ℕ → ℕ → Type 0) → BTreeSet (ℕ × ℕ) → Type 0
HasAllBoth is Says s = (x y : ℕ) → HasBoth s x y ↔ IsSaid is (λ i. Says i x y)

-- it is one of the instructions
abbrev pub IsOf : List PlainInst → PlainInst → Type 0
IsOf is i = (n : ℕ) × (slice_get is n ≡ Some i)

-- something is so of an id among operands
abbrev pub AnyId : (ℕ → Type 0) → List Plain → Type 0
AnyId P [] = ⊥
AnyId P (Id x ∷ os) = P x ⊎ AnyId P os
AnyId P (o ∷ os) = AnyId P os
