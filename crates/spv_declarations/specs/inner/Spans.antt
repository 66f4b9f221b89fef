-- Between which instructions those stand that rules look at. (For the code alone.)
use Rattle.std.specs.Prelude.{◌≡◌, ◌<◌, ◌≤◌, ◌+◌, ℕ, List, Some, true, slice_get}
use Rattle.spv_module.specs.Operand.{PlainInst}
use Rattle.spv_declarations.specs.declared.spans.Spans.{Spans}
use Rattle.spv_declarations.specs.inner.Early.{is_saying}
use Rattle.spv_declarations.specs.inner.Kinds.{Enters}

-- the instruction says something of ids or members; that of a number is there, and does
abbrev pub Says : PlainInst → Type 0
Says i = is_saying i.opcode ≡ true

abbrev pub SaysAt : List PlainInst → ℕ → Type 0
SaysAt is n = (i : PlainInst) × (slice_get is n ≡ Some i) × Says i

-- Of the instructions before n those that say something stand in the span, and the OpEntryPoints before its end.
pub record AreSpans (is : List PlainInst) (n : ℕ) (s : Spans) : Type 0 where
  pub says : (m : ℕ) (i : PlainInst) → m < n → slice_get is m ≡ Some i → Says i → (s.from ≤ m) × (m < s.to)
  pub enters : (m : ℕ) (i : PlainInst) → m < n → slice_get is m ≡ Some i → Enters i → m < s.entries
  pub within : (s.from ≤ n) × (s.to ≤ n) × (s.entries ≤ n)

-- One instruction more, which is instruction n.
pub record Widens (n : ℕ) (old new : Spans) (i : PlainInst) : Type 0 where
  pub here : old.from ≤ n → Says i → (new.from ≤ n) × (n < new.to)
  pub there : (m : ℕ) → m < n → old.from ≤ m → m < old.to → (new.from ≤ m) × (m < new.to)
  pub enters : Enters i → n < new.entries
  pub entered : (m : ℕ) → m < n → m < old.entries → m < new.entries
  pub within : old.from ≤ n → old.to ≤ n → old.entries ≤ n
      → (new.from ≤ n + 1) × (new.to ≤ n + 1) × (new.entries ≤ n + 1)
