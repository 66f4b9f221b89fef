-- The first instruction of which something is so. (For the code alone.)
use Rattle.std.specs.Prelude.{◌<◌, ℕ, Option, MatchOption}

-- it is so of none at all; this is the first of all
abbrev pub IsFirstOf : (ℕ → Type 0) → Option ℕ → Type 0
IsFirstOf P o = MatchOption o ((n : ℕ) → ¬ (P n)) (λ n. P n × ((k : ℕ) → k < n → ¬ (P k)))
