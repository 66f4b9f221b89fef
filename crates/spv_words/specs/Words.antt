-- Words, and the bytes that stand for them.
use Rattle.std.specs.Prelude.{◌≡◌, ◌<◌, ℕ, ◌+◌, ◌*◌, List, [], ◌∷◌, length, slice_index, All}
use Rattle.spv_words.specs.declared.words.Order.{Order}
use Rattle.spv_words.specs.declared.words.Order.TheVariants.{Little, Big}

-- Four bytes as a word: the first is its least part in Little, and its greatest in Big. [2.3]
abbrev pub word_of : Order → ℕ → ℕ → ℕ → ℕ → ℕ
word_of Little a b c d = a + 256 * b + 65536 * c + 16777216 * d
word_of Big a b c d = d + 256 * c + 65536 * b + 16777216 * a

-- The bytes stand for the words, four bytes for each word. [2.3]
pub record StandFor (o : Order) (bytes words : List ℕ) : Type 0 where
  pub octets : All (λ b. b < 256) bytes
  pub whole : length bytes ≡ 4 * length words
  pub each : (k : ℕ) → k < length words
      → slice_index words k ≡ word_of o (slice_index bytes (4 * k)) (slice_index bytes (4 * k + 1))
      (slice_index bytes (4 * k + 2)) (slice_index bytes (4 * k + 3))

-- The words of the whole groups of four bytes: where there are only such, the bytes stand for them. [own]
abbrev pub words_of : Order → List ℕ → List ℕ
words_of o (a ∷ b ∷ c ∷ d ∷ rest) = word_of o a b c d ∷ words_of o rest
words_of o _ = []

-- Each group of four bytes back to front. (Own.)
abbrev pub turned : List ℕ → List ℕ
turned (a ∷ b ∷ c ∷ d ∷ rest) = d ∷ c ∷ b ∷ a ∷ turned rest
turned _ = []
