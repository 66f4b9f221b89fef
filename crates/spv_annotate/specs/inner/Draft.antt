-- Texts that are put together in a buffer, from the front. (For the code alone.)
use Rattle.std.specs.Prelude.{◌≡◌, ◌≤◌, ◌<◌, ◌+◌, ◌++◌, ◌==◌, ◌&&◌, ℕ, List, [], Option, Bool, true, codes}
use Rattle.std.specs.Prelude.{if◌then◌else◌, IsUtf8, drop, length, nat_lt, take}
use Rattle.std.specs.List.{AllByRecursion}
use Rattle.spv_module.specs.declared.opcode.TheConstants.{FUNCTION, LABEL}
use Rattle.spv_annotate.specs.declared.draft.TheConstants.{FULL}
use Rattle.spv_annotate.specs.declared.linked.Quoting.{Quoting}
use Rattle.spv_annotate.specs.Page.{linked}
use Rattle.spv_annotate.specs.inner.Linked.{base, is_bare_byte}

-- up to where a line may begin in the buffer, and up to where it may end
abbrev pub most_begun : ℕ
most_begun = 1328

abbrev pub most_ended : ℕ
most_ended = 2300

-- Behind a place a text was added.
pub record IsAdded (text : List ℕ) (at end : ℕ) (old new : List ℕ) : Type 0 where
  pub all : take end new ≡ take at old ++ text
  pub utf8 : IsUtf8 (take at old) → IsUtf8 (take end new)

-- is an octet of ASCII, which begins no id and stands in HTML for itself
abbrev pub is_plain : ℕ → Bool
is_plain b = nat_lt b 128 && is_bare_byte b

-- So many octets, which are plain, were copied behind a place.
pub record IsCopied (octets : List ℕ) (at n : ℕ) (old new : List ℕ) : Type 0 where
  pub within : n ≤ length octets
  pub plain : AllByRecursion (λ b. is_plain b ≡ true) (take n octets)
  pub all : take (at + n) new ≡ take at old ++ take n octets

-- So much was read of a line, and behind a place that was added which stands for it where ids have links.
pub record IsFront (definition : ℕ → Option ℕ) (line : List ℕ) (read at end : ℕ) (old new : List ℕ) : Type 0 where
  pub within : read ≤ length line
  pub ascii : AllByRecursion (λ b. b < 128) (take read line)
  pub all : (q : Quoting) → base q ≡ q
      → take end new ++ linked definition q (drop read line) ≡ take at old ++ linked definition q line
  pub utf8 : IsUtf8 (take at old) → IsUtf8 (take end new)

-- A page goes on with a text: what is added to it, and behind that what a buffer has up to a place.
pub record IsDrafted (text out : List ℕ) (at : ℕ) (old more : List ℕ) (end : ℕ) (new : List ℕ) : Type 0 where
  pub high : end ≤ FULL
  pub utf8 : IsUtf8 (take end new)
  pub all : more ++ take end new ≡ (out ++ take at old) ++ text

-- how the line of an instruction of that opcode begins as a heading, and how it ends
abbrev pub heading_begin : ℕ → List ℕ
heading_begin opcode = if opcode == FUNCTION then codes "<h2>" else (if opcode == LABEL then codes "<h3>" else [])

abbrev pub heading_end : ℕ → List ℕ
heading_end opcode = if opcode == FUNCTION then codes "</h2>" else (if opcode == LABEL then codes "</h3>" else [])
