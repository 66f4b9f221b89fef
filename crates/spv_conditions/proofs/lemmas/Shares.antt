-- What is left of the components of a vector.
use Rattle.std.proofs.Common.{◌≡◌, ◌∙◌, ◌+◌, ◌-◌, ◌≤◌, ◌↔◌, ℕ, List, [], ◌∷◌, Option, Some, None, Bool, true, false}
use Rattle.std.proofs.Common.{refl, sym, ap, arith, nat_le, if◌then◌else◌, option_and_then, option_map}
use Rattle.std.proofs.lemmas.Bool.{leb-true, le-leb}
use Rattle.std.proofs.lemmas.Option.{none-some}
use Rattle.spv_module.specs.Operand.{PlainInst}
use Rattle.spv_conditions.specs.Rest.{shares_of}
use Rattle.spv_conditions.specs.inner.Shares.{share_of, left_of}

-- What is left of so many components is none exactly where the values give as many.

at_most : (n m : ℕ) (rest : Option ℕ) (F : ℕ → Option ℕ) → ((k : ℕ) → (F k ≡ Some 0) ↔ (rest ≡ Some k)) → (b : Bool)
    → nat_le m n ≡ b
    → (option_and_then F (if b then Some (n - m) else None) ≡ Some 0) ↔ (option_map (λ k. m + k) rest ≡ Some n)
at_most n m None F h true e = (λ y. absurd (none-some (n - m) ((h (n - m)).0 y)), λ q. absurd (none-some n q))
at_most n m (Some k) F h true e = (
  λ y. let r : k ≡ n - m = cc ((h (n - m)).0 y) in let l : m ≤ n = leb-true m n e in
      ap Some (let sum : m + k ≡ n = omega arith in sum),
  λ q. let sum : m + k ≡ n = cc in (h (n - m)).1 (ap Some (let r : k ≡ n - m = omega arith in r)),
)
at_most n m None F h false e = (λ y. absurd (none-some 0 y), λ q. absurd (none-some n q))
at_most n m (Some k) F h false e = (
  λ y. absurd (none-some 0 y),
  λ q. let sum : m + k ≡ n = cc in let l : m ≤ n = omega arith in
      absurd (let no : false ≡ true = sym e ∙ le-leb m n l in cc),
)

one_value : (n : ℕ) (s rest : Option ℕ) (F : ℕ → Option ℕ) → ((k : ℕ) → (F k ≡ Some 0) ↔ (rest ≡ Some k))
    → (option_and_then F (option_and_then (λ m. if nat_le m n then Some (n - m) else None) s) ≡ Some 0)
    ↔ (option_and_then (λ m. option_map (λ k. m + k) rest) s ≡ Some n)
one_value n None rest F h = (λ y. absurd (none-some 0 y), λ q. absurd (none-some n q))
one_value n (Some m) rest F h = at_most n m rest F h (nat_le m n) refl

pub shares_left : (is : List PlainInst) (c n : ℕ) (ts : List ℕ)
    → (left_of is c ts n ≡ Some 0) ↔ (shares_of is c ts ≡ Some n)
shares_left is c n [] = (
  λ e. let z : n ≡ 0 = cc in ap Some (let y : 0 ≡ n = omega arith in y),
  λ e. let z : 0 ≡ n = cc in
      ap Some (let y : n ≡ 0 = omega arith in y),
)
shares_left is c n (t ∷ ts) =
    one_value n (share_of is c t) (shares_of is c ts) (λ m. left_of is c ts m) (λ m. shares_left is c m ts)
