-- O6, at single instructions.
use Rattle.std.proofs.Common.{◌≡◌, ◌∙◌, ◌↔◌, ◌<◌, inl, inr, ℕ, sym, subst, arith, List, Some, IsTrue, nat_le}
use Rattle.std.proofs.lemmas.Bool.{leb-true, le-leb, cases_lt}
use Rattle.spv_module.specs.Operand.{PlainInst}
use Rattle.spv_conditions.specs.Further.{IsMember}
use Rattle.spv_declarations.specs.Given.{member_by}
use Rattle.spv_declarations.specs.Declarations.{NamesNoMember}

absent : (is : List PlainInst) (i : PlainInst) (t k u j : ℕ) → member_by i ≡ Some (t, k) → member_by i ≡ Some (u, j)
    → ¬ (IsMember is u j) → ¬ (IsMember is t k)
absent is i t k u j a b n =
    let e : Some (t, k) ≡ Some (u, j) = sym a ∙ b in
    let r : (t, k) ≡ (u, j) = cc in
    subst (λ (z : ℕ × ℕ). ¬ (IsMember is z.0 z.1)) (sym r) n

pub no_member_tells : (is : List PlainInst) (i : PlainInst) (t k count : ℕ) → member_by i ≡ Some (t, k)
    → ((j : ℕ) → (j < count) ↔ IsMember is t j) → IsTrue (nat_le count k) ↔ NamesNoMember is i
no_member_tells is i t k count e h = (
  λ y. (t, k, e, λ m. let l = leb-true count k y in let b = (h k).1 m in omega (arith, l, b)),
  λ n. elim (cases_lt k count) [
    | inl l ↦ absurd (absent is i t k n.0 n.1 e n.2 n.3 ((h k).0 l))
    | inr g ↦ le-leb count k g
  ],
)
