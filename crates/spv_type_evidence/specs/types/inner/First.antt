-- The first of the numbers at which something is not so. (For the code alone.)
use Rattle.std.specs.Prelude.{◌<◌, ℕ, Option, MatchOption}

-- it is so at each number, or not at k and at each below
abbrev pub IsFirstOf : (ℕ → Type 0) → Option ℕ → Type 0
IsFirstOf P o = MatchOption o ((k : ℕ) → P k) (λ k. (¬ (P k)) × ((j : ℕ) → j < k → P j))
