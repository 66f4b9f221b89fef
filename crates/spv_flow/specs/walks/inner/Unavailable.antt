-- The values that are unavailable on the walks of one function. (For the code alone.)
use Rattle.std.specs.Prelude.{◌≡◌, ◌<◌, ◌⊎◌, ℕ, List, Option, MatchOption}
use Rattle.spv_table.specs.Table.{Table}
use Rattle.spv_module.specs.Operand.{PlainInst}
use Rattle.spv_module.specs.declared.fault.Rule.{Rule}
use Rattle.spv_module.specs.declared.fault.Rule.TheVariants.{A1, A2}
use Rattle.spv_flow.specs.branches.Target.{is_phi, IsOp}
use Rattle.spv_flow.specs.branches.Ready.{IsMissing, IsPairMissing}

-- On a walk of the function whose OpFunction is f, a value that instruction n uses is unavailable.
abbrev pub IsUnavailableIn : Table → List PlainInst → ℕ → ℕ → Type 0
IsUnavailableIn G is f n =
    ((m : IsMissing G is n) × (m.function ≡ f)) ⊎ ((m : IsPairMissing G is n) × (m.comes.function ≡ f))

-- the first instruction at which one is; none where none is
abbrev pub IsFirstIn : Table → List PlainInst → ℕ → Option ℕ → Type 0
IsFirstIn G is f o =
    MatchOption o ((n : ℕ) → ¬ (IsUnavailableIn G is f n))
    (λ n. IsUnavailableIn G is f n × ((m : ℕ) → m < n → ¬ (IsUnavailableIn G is f m)))

-- On some walk, a value that instruction n uses is unavailable.
abbrev pub IsUnavailableAt : Table → List PlainInst → ℕ → Type 0
IsUnavailableAt G is n = IsMissing G is n ⊎ IsPairMissing G is n

-- the first instruction at which one is; none where none is
abbrev pub IsFirstOf : Table → List PlainInst → Option ℕ → Type 0
IsFirstOf G is o =
    MatchOption o ((n : ℕ) → ¬ (IsUnavailableAt G is n))
    (λ n. IsUnavailableAt G is n × ((m : ℕ) → m < n → ¬ (IsUnavailableAt G is m)))

-- The rule is that of the instruction: A2 of an OpPhi, and A1 of any other.
pub record IsRuleAt (is : List PlainInst) (n : ℕ) (r : Rule) : Type 0 where
  pub phi : IsOp is n is_phi → r ≡ A2
  pub other : ¬ (IsOp is n is_phi) → r ≡ A1
