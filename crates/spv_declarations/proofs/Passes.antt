-- A pass over the first instructions that stops at the first of some kind.
use Rattle.std.proofs.Common.{◌≡◌, ◌∙◌, ◌↔◌, ◌+◌, ◌<◌, ◌≤◌, ℕ, Bool, true, false, sym, arith, List, Some, None, IsTrue}
use Rattle.std.proofs.Common.{below_more}
use Rattle.std.specs.Prelude.{slice_get}
use Rattle.spv_module.specs.Operand.{PlainInst}
use Rattle.spv_declarations.specs.Given.{At}
use Rattle.spv_declarations.specs.inner.First.{IsFirstBelow}
use Rattle.spv_declarations.proofs.Gathered.{at_tells}

pub found : (count n : ℕ) (P : ℕ → Type 0) → n < count → P n → ((k : ℕ) → k < n → ¬ (P k))
    → IsFirstBelow count P (Some n)
found count n P l p h = (l, p, h)

pub none : (count n : ℕ) (P : ℕ → Type 0) → count ≤ n → ((k : ℕ) → k < n → ¬ (P k)) → IsFirstBelow count P None
none count n P l h m k p = h m (omega (arith, l, k)) p

-- by a test of the instruction
pub found_at : (is : List PlainInst) (P : PlainInst → Type 0) (count n : ℕ) (i : PlainInst) (b : Bool) → n < count
    → slice_get is n ≡ Some i → (IsTrue b ↔ P i) → b ≡ true → ((k : ℕ) → k < n → ¬ (At is P k))
    → IsFirstBelow count (At is P) (Some n)
found_at is P count n i b l at t e h = (l, (i, at, t.0 e), h)

pub more_at : (is : List PlainInst) (P : PlainInst → Type 0) (n : ℕ) (i : PlainInst) (b : Bool)
    → slice_get is n ≡ Some i → (IsTrue b ↔ P i) → b ≡ false → ((k : ℕ) → k < n → ¬ (At is P k)) → (k : ℕ) → k < n + 1
    → ¬ (At is P k)
more_at is P n i b at t f h =
    below_more _ _ h (λ p. let no : false ≡ true = sym f ∙ t.1 (at_tells is P n i at p) in absurd (cc))

-- by a test of the number
pub found_by : (P : ℕ → Type 0) (count n : ℕ) (b : Bool) → n < count → (IsTrue b ↔ P n) → b ≡ true
    → ((k : ℕ) → k < n → ¬ (P k)) → IsFirstBelow count P (Some n)
found_by P count n b l t e h = (l, t.0 e, h)

pub more_by : (P : ℕ → Type 0) (n : ℕ) (b : Bool) → (IsTrue b ↔ P n) → b ≡ false → ((k : ℕ) → k < n → ¬ (P k)) → (k : ℕ)
    → k < n + 1 → ¬ (P k)
more_by P n b t f h = below_more _ _ h (λ p. let no : false ≡ true = sym f ∙ t.1 p in absurd (cc))
