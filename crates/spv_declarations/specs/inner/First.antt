-- The first instruction of which something is so, and the first of some rules. (For the code alone.)
use Rattle.std.specs.Prelude.{◌≡◌, ◌<◌, ◌≤◌, ◌⊎◌, ℕ, List, [], ◌∷◌, Option, MatchOption}
use Rattle.std.specs.List.{AllByRecursion}
use Rattle.spv_table.specs.Table.{Table}
use Rattle.spv_module.specs.Operand.{PlainInst}
use Rattle.spv_module.specs.declared.fault.Rule.{Rule}
use Rattle.spv_layout.specs.First.{rank_of}
use Rattle.spv_declarations.specs.Broken.{Broken}
use Rattle.spv_declarations.specs.declared.found.Found.{Found}

-- it is so of none below count; this is one, and it is so of none below it
abbrev pub IsFirstBelow : ℕ → (ℕ → Type 0) → Option ℕ → Type 0
IsFirstBelow count P o = MatchOption o
    ((n : ℕ) → n < count → ¬ (P n))
    (λ n. (n < count) × P n × ((k : ℕ) → k < n → ¬ (P k)))

-- it is so of none at all; this is the first of all
abbrev pub IsFirstOf : (ℕ → Type 0) → Option ℕ → Type 0
IsFirstOf P o = MatchOption o ((n : ℕ) → ¬ (P n)) (λ n. P n × ((k : ℕ) → k < n → ¬ (P k)))

-- a rule is one of these; they come before it or are it
abbrev pub IsOneOf : List Rule → Rule → Type 0
IsOneOf [] q = ⊥
IsOneOf (r ∷ rs) q = (q ≡ r) ⊎ IsOneOf rs q

abbrev pub AreBefore : List Rule → Rule → Type 0
AreBefore rs r = AllByRecursion (λ q. rank_of q ≤ rank_of r) rs

-- none of these rules is broken; of those that are, this one is told
abbrev pub IsFirstAmong : Table → List PlainInst → List Rule → Option Found → Type 0
IsFirstAmong G is rs o = MatchOption o
    ((q : Rule) (n : ℕ) → IsOneOf rs q → ¬ (Broken G is q n))
    (λ f. IsOneOf rs f.rule × Broken G is f.rule f.inst × ((q : Rule) (m : ℕ) → IsOneOf rs q → Broken G is q m
    → (f.inst < m) ⊎ ((f.inst ≡ m) × (rank_of f.rule ≤ rank_of q))))
