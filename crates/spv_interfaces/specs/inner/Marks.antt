-- Bits of words: each word is of an instruction, each bit of an entry point. (For the code alone.)
use Rattle.std.specs.Prelude.{◌≡◌, ◌≤◌, ◌<◌, ◌^◌, ◌⊎◌, ◌↔◌, ℕ, List, Some, length, slice_get, slice_index_or}
use Rattle.std.specs.Int.{bit_at}
use Rattle.spv_flow.specs.declared.calls.graph.Call.{Call}
use Rattle.spv_flow.specs.calls.Chain.{Chain}
use Rattle.spv_flow.specs.calls.inner.Graph.{HasCall}
use Rattle.spv_interfaces.specs.declared.used.Use.{Use}

-- The word has the bit.
pub record HasBit (word k : ℕ) : Type 0 where
  pub bit : bit_at word k ≡ 1

-- the word of an instruction; it has the bit
abbrev pub word_of : List ℕ → ℕ → ℕ
word_of words f = slice_index_or words f 0

abbrev pub IsMarked : List ℕ → ℕ → ℕ → Type 0
IsMarked words f k = HasBit (word_of words f) k

-- Of some instruction something is so, and its word has the bit.
pub record HasMarked (P : ℕ → Type 0) (words : List ℕ) (k : ℕ) : Type 0 where
  pub number : ℕ
  pub so : P number
  pub marked : IsMarked words number k

-- The bit is one of these, and the instruction one that has a word and of which something is so.
pub record IsAdded (bits : ℕ) (P : ℕ → Type 0) (count f k : ℕ) : Type 0 where
  pub bit : HasBit bits k
  pub within : f < count
  pub so : P f

-- The new words have the bits that the old ones had, and these bits where something is so.
pub record Adds (bits : ℕ) (P : ℕ → Type 0) (old new : List ℕ) : Type 0 where
  pub count : length new ≡ length old
  pub each : (f k : ℕ) → IsMarked new f k ↔ (IsMarked old f k ⊎ IsAdded bits P (length old) f k)

-- No word gets less.
pub record Rises (old new : List ℕ) : Type 0 where
  pub count : length new ≡ length old
  pub each : (f : ℕ) → word_of old f ≤ word_of new f

-- Each new bit is one of an instruction from which calls lead here.
pub record Grows (calls : List Call) (old new : List ℕ) : Type 0 where
  pub rises : Rises old new
  pub kept : (f k : ℕ) → IsMarked old f k → IsMarked new f k
  pub sound : (f k : ℕ) → IsMarked new f k → (e : ℕ) × IsMarked old e k × Chain (HasCall calls) e f

-- What the caller has, the callee has.
pub record IsClosed (calls : List Call) (words : List ℕ) : Type 0 where
  pub each : (place : ℕ) (c : Call) → slice_get calls place ≡ Some c → (k : ℕ) → IsMarked words c.caller k
      → IsMarked words c.callee k

-- The call is of the list, and its caller has a bit that its callee has not.
pub record IsOpen (calls : List Call) (words : List ℕ) (c : Call) : Type 0 where
  pub place : ℕ
  pub there : slice_get calls place ≡ Some c
  pub bit : ℕ
  pub from : IsMarked words c.caller bit
  pub to : ¬ (IsMarked words c.callee bit)
  pub fits : word_of words c.callee < 2 ^ 64

-- One of the first uses is in a function that has the bit, of a variable that has it not.
pub record IsMissing (reached named : List ℕ) (uses : List Use) (to k : ℕ) : Type 0 where
  pub place : ℕ
  pub below : place < to
  pub use_there : Use
  pub there : slice_get uses place ≡ Some use_there
  pub has : IsMarked reached use_there.function k
  pub lacks : ¬ (IsMarked named use_there.variable k)
