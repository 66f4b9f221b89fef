-- Words from which bits are taken. (For the code alone.)
use Rattle.std.specs.Prelude.{◌≡◌, ◌<◌, ℕ, List, Some, length, slice_get}
use Rattle.spv_flow.specs.declared.calls.graph.Call.{Call}
use Rattle.spv_interfaces.specs.inner.Marks.{IsMarked}

-- The new words have no bits that the old ones had not, and none where something is so.
pub record Clears (P : ℕ → Type 0) (old new : List ℕ) : Type 0 where
  pub count : length new ≡ length old
  pub each : (f k : ℕ) → IsMarked new f k → IsMarked old f k × ¬ (P f)

-- No word has a bit.
pub record AreBlank (words : List ℕ) : Type 0 where
  pub each : (f k : ℕ) → ¬ (IsMarked words f k)

-- There are words for so many instructions, and no bit is set.
pub record AreFresh (total : ℕ) (reached named : List ℕ) : Type 0 where
  pub reached_count : length reached ≡ total
  pub named_count : length named ≡ total
  pub not_reached : AreBlank reached
  pub not_named : AreBlank named

-- One of the calls is of the function; one of the first is.
pub record IsCalledBefore (calls : List Call) (to f : ℕ) : Type 0 where
  pub place : ℕ
  pub below : place < to
  pub call : Call
  pub there : slice_get calls place ≡ Some call
  pub callee : call.callee ≡ f

abbrev pub IsCalled : List Call → ℕ → Type 0
IsCalled calls f = IsCalledBefore calls (length calls) f

-- It is so of one of the numbers; of one of the first.
pub record IsOfOneBefore (R : ℕ → ℕ → Type 0) (few : List ℕ) (to f : ℕ) : Type 0 where
  pub place : ℕ
  pub below : place < to
  pub number : ℕ
  pub there : slice_get few place ≡ Some number
  pub so : R number f

abbrev pub IsOfOne : (ℕ → ℕ → Type 0) → List ℕ → ℕ → Type 0
IsOfOne R few f = IsOfOneBefore R few (length few) f
