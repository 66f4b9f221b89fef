-- The header of a module, the limits of its size, and what its bytes break.
use Rattle.std.specs.Prelude.{◌≡◌, ◌<◌, ◌≤◌, ℕ, ◌%◌, List, length, slice_index}
use Rattle.spv_words.specs.Words.{StandFor, words_of}
use Rattle.spv_words.specs.declared.words.Order.{Order}
use Rattle.spv_words.specs.declared.words.Order.TheVariants.{Little}
use Rattle.spv_words.specs.declared.words.WordError.{WordError}
use Rattle.spv_words.specs.declared.words.WordError.TheVariants as code

-- The magic number 0x07230203; the version 0x00010600, 1.6, and this one alone; the greatest bound of ids; the greatest
-- number of bytes of a module. [2.3; all but the first own]
abbrev pub magic_number : ℕ
magic_number = 119734787

abbrev pub version_number : ℕ
version_number = 67072

abbrev pub greatest_bound : ℕ
greatest_bound = 4194303

abbrev pub greatest_size : ℕ
greatest_size = 16777216

-- The greatest number of words of a module. [own]
abbrev pub greatest_length : ℕ
greatest_length = 4194304

-- The words begin with a header: the magic number, the version, any generator, a bound that fits, and 0.
-- [2.3; the version and the greatest bound own]
pub record IsHeader (words : List ℕ) : Type 0 where
  pub five : 5 ≤ length words
  pub magic : slice_index words 0 ≡ magic_number
  pub version : slice_index words 1 ≡ version_number
  pub bound_least : 1 ≤ slice_index words 3
  pub bound_most : slice_index words 3 ≤ greatest_bound
  pub schema : slice_index words 4 ≡ 0

-- The bytes are those of a module in that order, and the words are its words. [2.3; the size own]
pub record IsModule (o : Order) (bytes words : List ℕ) : Type 0 where
  pub stands : StandFor o bytes words
  pub header : IsHeader words
  pub size : length bytes ≤ greatest_size

-- The bytes stand for the words in the order in which the first of them is the magic number. [2.3]
pub record StandInOrder (o : Order) (bytes words : List ℕ) : Type 0 where
  pub stands : StandFor o bytes words
  pub magic : slice_index words 0 ≡ magic_number

-- What each code asks of a module's bytes. W1 and W9 ask nothing of them. [2.3; W5, W7 and W8 own]
abbrev pub BytesKeep : WordError → List ℕ → Type 0
BytesKeep code.W1 bytes = Unit {0}
BytesKeep code.W2 bytes = 20 ≤ length bytes
BytesKeep code.W3 bytes = length bytes % 4 ≡ 0
BytesKeep code.W4 bytes = (o : Order) × ((words : List ℕ) × StandInOrder o bytes words)
BytesKeep code.W5 bytes = (o : Order) (words : List ℕ) → StandInOrder o bytes words
    → slice_index words 1 ≡ version_number
BytesKeep code.W6 bytes = (o : Order) (words : List ℕ) → StandInOrder o bytes words → slice_index words 4 ≡ 0
BytesKeep code.W7 bytes = (o : Order) (words : List ℕ) → StandInOrder o bytes words → (1 ≤ slice_index words 3)
    × (slice_index words 3 ≤ greatest_bound)
BytesKeep code.W8 bytes = length bytes ≤ greatest_size
BytesKeep code.W9 bytes = Unit {0}

-- The place of a code in the order of the tests: W8, then W2 to W7. [own]
abbrev pub place_of : WordError → ℕ
place_of code.W1 = 0
place_of code.W2 = 2
place_of code.W3 = 3
place_of code.W4 = 4
place_of code.W5 = 5
place_of code.W6 = 6
place_of code.W7 = 7
place_of code.W8 = 1
place_of code.W9 = 0

-- The bytes break what the code asks, and keep what each code before it asks. [own]
pub record IsFirstBroken (e : WordError) (bytes : List ℕ) : Type 0 where
  pub broken : ¬ BytesKeep e bytes
  pub before : (d : WordError) → place_of d < place_of e → BytesKeep d bytes

-- What an error says of the bytes of a reader: W1 and W9 nothing, any other that it is the first broken. [own]
abbrev pub RefusesBytes : WordError → List ℕ → Type 0
RefusesBytes code.W1 bytes = Unit {0}
RefusesBytes code.W9 bytes = Unit {0}
RefusesBytes e bytes = IsFirstBroken e bytes

-- What an image keeps: little-endian bytes that are a module's. [own]
abbrev pub IsImage : List ℕ → Type 0
IsImage bytes = IsModule Little bytes (words_of Little bytes)
