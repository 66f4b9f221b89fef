-- Chains of a relation between numbers. (Own.)
use Rattle.std.specs.Prelude.{ℕ}

-- From f to g by a finite list of numbers, each in the relation with the next; one number alone is a chain. [own]
pub data Chain (R : ℕ → ℕ → Type 0) (f : ℕ) : ℕ → Type 0 where
  alone : Chain R f f
  more : (g h : ℕ) → Chain R f g → R g h → Chain R f h
