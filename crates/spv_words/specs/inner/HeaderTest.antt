-- What the one test of a header's version, schema and bound answers. (For the code alone.)
use Rattle.std.specs.Prelude.{◌≡◌, ◌≢◌, ◌≤◌, ℕ}
use Rattle.spv_words.specs.Header.{version_number, greatest_bound}
use Rattle.spv_words.specs.declared.words.WordError.{WordError}
use Rattle.spv_words.specs.declared.words.WordError.TheVariants as code

-- These three numbers fit a header. [2.3; the bound own]
pub record PassesTest (version schema bound : ℕ) : Type 0 where
  pub right_version : version ≡ version_number
  pub right_schema : schema ≡ 0
  pub bound_least : 1 ≤ bound
  pub bound_most : bound ≤ greatest_bound

-- They break what the code asks, and nothing before it. [own]
abbrev pub Breaks : WordError → ℕ → ℕ → ℕ → Type 0
Breaks code.W5 version schema bound = version ≢ version_number
Breaks code.W6 version schema bound = (version ≡ version_number) × (schema ≢ 0)
Breaks code.W7 version schema bound =
    (version ≡ version_number) × (schema ≡ 0) × ¬ ((1 ≤ bound) × (bound ≤ greatest_bound))
Breaks _ version schema bound = ⊥
