-- What holds of an opcode by its number.
use Rattle.std.proofs.Common.{◌≡◌, ◌↔◌, ℕ, List, Option, Bool, true, false, subst, sym}
use Rattle.std.specs.Prelude.{IsTrue, ⊤}
use Rattle.spv_module.specs.Operand.{PlainInst}
use Rattle.spv_ops.specs.Typed.{LineHolds}

pub held : (is : List PlainInst) (n : ℕ) (i : PlainInst) (r : Option ℕ) (types : List ℕ) (b : Bool) (o k : ℕ) → o ≡ k
    → (IsTrue b ↔ LineHolds is n i k r types) → IsTrue b ↔ LineHolds is n i o r types
held is n i r types b o k e h = subst (λ m. IsTrue b ↔ LineHolds is n i m r types) (sym e) h

-- one condition, or several after it
pub alone : (y : Bool) (A : Type 0) → (IsTrue y ↔ A) → IsTrue y ↔ (A × ⊤)
alone y A g = (λ h. (g.0 h, tt), λ p. g.1 p.0)

pub after : (x y : Bool) (A B : Type 0) → x ≡ true → (IsTrue x ↔ A) → (IsTrue y ↔ B) → IsTrue y ↔ (A × B)
after x y A B e f g = (λ h. (f.0 e, g.0 h), λ p. g.1 p.1)

pub never : (x : Bool) (A B : Type 0) → x ≡ false → (IsTrue x ↔ A) → IsTrue x ↔ (A × B)
never x A B e f = (λ h. absurd (let yes : x ≡ true = h in cc), λ p. f.1 p.0)
