use Rattle.std.proofs.Common.{◌≡◌, ◌≤◌, ◌⊎◌, inl, inr, ℕ, List, subst, arith}
use Rattle.spv_module.specs.Operand.{PlainInst}
use Rattle.spv_declarations.specs.Decorated.{IsLeastBy}
use Rattle.spv_declarations.proofs.laws.one_second.Goals as goal

least_same : (is : List PlainInst) (x y d a b : ℕ) → x ≡ y → IsLeastBy is x d a → IsLeastBy is y d b → a ≡ b
least_same is x y d a b e l r =
    let k : IsLeastBy is y d a = subst (λ (z : ℕ). IsLeastBy is z d a) e l in
    let p : a ≤ b = k.least b r.has in
    let q : b ≤ a = r.least a k.has in
    omega (arith, p, q)

-- a number that is one of two and not below the other
greater_same : (m n r a : ℕ) → r ≤ m → a ≤ m → (m ≡ r) ⊎ (m ≡ a) → r ≤ n → a ≤ n → (n ≡ r) ⊎ (n ≡ a) → m ≡ n
greater_same m n r a p q (inl e) s t (inl f) = omega (arith, p, q, e, s, t, f)
greater_same m n r a p q (inl e) s t (inr f) = omega (arith, p, q, e, s, t, f)
greater_same m n r a p q (inr e) s t (inl f) = omega (arith, p, q, e, s, t, f)
greater_same m n r a p q (inr e) s t (inr f) = omega (arith, p, q, e, s, t, f)

pub returns : goal.returns
returns c = λ is m n first other e.
    let r = least_same is first.id other.id 19 first.restricted other.restricted e first.one other.one in
    let a = least_same is first.id other.id 20 first.aliased other.aliased e first.other other.other in
    greater_same m n other.restricted other.aliased
    (subst (λ (k : ℕ). k ≤ m) r first.greater.0) (subst (λ (k : ℕ). k ≤ m) a first.greater.1)
    (subst (λ (k : ℕ). (m ≡ k) ⊎ (m ≡ other.aliased)) r
    (subst (λ (k : ℕ). (m ≡ first.restricted) ⊎ (m ≡ k)) a first.greater.2)) other.greater.0 other.greater.1
    other.greater.2
