-- The function that an instruction is of.
use Rattle.std.proofs.Common.{◌≡◌, ◌↔◌, ℕ, List, Some}
use Rattle.std.specs.Prelude.{slice_get, IsSomeAnd}
use Rattle.spv_module.specs.Operand.{PlainInst}
use Rattle.spv_layout.specs.Place.{IsOfFunction}
use Rattle.spv_type_rules.specs.Function.{OfFunction}

there : (P : ℕ → PlainInst → Type 0) (is : List PlainInst) (f : ℕ) (d : PlainInst) → slice_get is f ≡ Some d
    → P f d ↔ IsSomeAnd (slice_get is f) (P f)
there P is f d e = rw e (λ p. p, λ p. p)

pub of_none : (P : ℕ → PlainInst → Type 0) (is : List PlainInst) (n : ℕ) → ((f : ℕ) → IsOfFunction is n f → ⊥)
    → OfFunction is n P → ⊥
of_none P is n never o = never o.0 o.1
