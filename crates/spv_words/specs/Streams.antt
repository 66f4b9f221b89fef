-- What reading and writing an image leave. (Own.)
use Rattle.std.specs.Prelude.{◌≡◌, ◌≤◌, ℕ, List, ◌++◌, length, take, drop, Option, Some}
use Rattle.spv_words.specs.Words.{StandFor}
use Rattle.spv_words.specs.declared.words.Order.{Order}
use Rattle.spv_words.specs.declared.words.WordError.{WordError}
use Rattle.spv_words.specs.declared.words.WordError.TheVariants as code

-- A writer that held `old` now also holds the first n of the bytes that stand for the words, and nothing else.
pub record HoldsBytes (o : Order) (words old : List ℕ) (new : Option (List ℕ)) (n : ℕ) : Type 0 where
  pub bytes : List ℕ
  pub stands : StandFor o bytes words
  pub fits : n ≤ length bytes
  pub front : new ≡ Some (old ++ take n bytes)

-- A reader that had the bytes `old` left has given at most n of them, the first.
pub record GaveAtMost (n : ℕ) (old : List ℕ) (new : Option (List ℕ)) : Type 0 where
  pub given : ℕ
  pub most : given ≤ n
  pub rest : new ≡ Some (drop given old)

-- How reading stops before the end of input: by a failed read, by too many bytes or because memory ran out.
abbrev pub IsStop : WordError → Type 0
IsStop code.W1 = Unit {0}
IsStop code.W8 = Unit {0}
IsStop code.W9 = Unit {0}
IsStop _ = ⊥
