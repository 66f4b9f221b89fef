-- The calls of functions that entry points reach, the other way round. (For the code alone.)
use Rattle.std.specs.Prelude.{◌≡◌, ◌<◌, ◌⊎◌, ℕ, List, Some, length, slice_get}
use Rattle.spv_module.specs.Operand.{PlainInst}
use Rattle.spv_flow.specs.declared.calls.graph.Call.{Call}
use Rattle.spv_flow.specs.calls.Calls.{Calls}
use Rattle.spv_flow.specs.calls.Chain.{Chain}
use Rattle.spv_flow.specs.calls.inner.Graph.{AreWithin, HasCall}
use Rattle.spv_interfaces.specs.inner.Entries.{Begins}
use Rattle.spv_interfaces.specs.inner.Marks.{IsClosed, IsMarked, word_of}

-- The functions of the first entry points have the bit 0.
pub record AreBegun (is : List PlainInst) (entries : List ℕ) (to : ℕ) (words : List ℕ) : Type 0 where
  pub each : (k n f : ℕ) → k < to → slice_get entries k ≡ Some n → Begins is n f → IsMarked words f 0

-- So have the functions to which chains of the calls lead from these.
pub record AreLive (is : List PlainInst) (entries : List ℕ) (calls : List Call) (words : List ℕ) : Type 0 where
  pub begun : AreBegun is entries (length entries) words
  pub closed : IsClosed calls words

-- The new list has what the old one had, and the call the other way round if its caller's word is not 0.
pub record Turns (words : List ℕ) (c : Call) (old new : List Call) : Type 0 where
  pub kept : (f g : ℕ) → HasCall old f g → HasCall new f g
  pub sound : (f g : ℕ) → HasCall new f g → HasCall old f g ⊎ ((c.callee ≡ f) × (c.caller ≡ g))
  pub added : 0 < word_of words c.caller → HasCall new c.callee c.caller

-- These are the first calls, each the other way round, without those of callers whose word is 0.
pub record AreTurnedOf (calls : List Call) (words : List ℕ) (to : ℕ) (turned : List Call) : Type 0 where
  pub sound : (f g : ℕ) → HasCall turned f g → HasCall calls g f
  pub complete : (k : ℕ) (c : Call) → k < to → slice_get calls k ≡ Some c → 0 < word_of words c.caller
      → HasCall turned c.callee c.caller

-- These are calls the other way round, and all of those to which chains lead from the entry points.
pub record AreTurned (is : List PlainInst) (entries : List ℕ) (turned : List Call) : Type 0 where
  pub within : AreWithin (length is) turned
  pub sound : (f g : ℕ) → HasCall turned f g → Calls is g f
  pub complete : (k n f g : ℕ) → slice_get entries k ≡ Some n → Begins is n f → Chain (Calls is) f g
      → Chain (HasCall turned) g f
