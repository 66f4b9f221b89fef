-- What holds of the declared types of the components of a vector and of the indexes of an access chain.
use Rattle.std.proofs.Common.{◌≡◌, ℕ, ◌+◌, ◌-◌, ◌≤◌, ◌<◌, nat_le, if◌then◌else◌, List, [], ◌∷◌, Option, Some, None}
use Rattle.std.proofs.Common.{Bool, true, false, length, option_and_then, option_map, ◌↔◌, refl, sym, ◌∙◌, ap, arith}
use Rattle.std.specs.Prelude.{IsSomeAnd}
use Rattle.std.specs.List.{AllByRecursion, list_all}
use Rattle.std.proofs.lemmas.Bool.{leb-true, le-leb}
use Rattle.std.proofs.lemmas.Option.{none-some, option_and_then_some}
use Rattle.spv_module.specs.Operand.{PlainInst}
use Rattle.spv_module.specs.Width.{type_of}
use Rattle.spv_type_forms.specs.Types.{IsSomeInt}
use Rattle.spv_ops.specs.inner.Chain.{Chains, ChainsByElement, LeadsByPointer}
use Rattle.spv_conditions.specs.Rest.{shares_of}
use Rattle.spv_ops.specs.inner.Composite.{share_of}
use Rattle.spv_type_forms.specs.inner.Tests.{has_int}
use Rattle.spv_ops.specs.inner.Tests.{left_of_all}
use Rattle.spv_type_forms.specs.Values.{types_of}
use Rattle.spv_type_forms.proofs.TagTests.{and_each, ints_typed, length-types_of}

-- what is left is none exactly where the shares add up: of one value at most n, of one value, and of one value more
at_most : (n m : ℕ) (rest : Option ℕ) (F : ℕ → Option ℕ) → ((k : ℕ) → (F k ≡ Some 0) ↔ (rest ≡ Some k)) → (b : Bool)
    → nat_le m n ≡ b
    → (option_and_then F (if b then Some (n - m) else None) ≡ Some 0) ↔ (option_map (λ k. m + k) rest ≡ Some n)
at_most n m None F h true e = (λ y. absurd (none-some (n - m) ((h (n - m)).0 y)), λ q. absurd (none-some n q))
at_most n m (Some k) F h true e = (
  λ y. let r : k ≡ n - m = cc ((h (n - m)).0 y) in let l : m ≤ n = leb-true m n e in
      ap Some (let sum : m + k ≡ n = omega arith in sum),
  λ q. let sum : m + k ≡ n = cc in (h (n - m)).1 (ap Some (let r : k ≡ n - m = omega arith in r)),
)
at_most n m None F h false e = (λ y. absurd (none-some 0 y), λ q. absurd (none-some n q))
at_most n m (Some k) F h false e = (
  λ y. absurd (none-some 0 y),
  λ q. let sum : m + k ≡ n = cc in let l : m ≤ n = omega arith in
      absurd (let no : false ≡ true = sym e ∙ le-leb m n l in cc),
)

one_value : (n : ℕ) (s rest : Option ℕ) (F : ℕ → Option ℕ) → ((k : ℕ) → (F k ≡ Some 0) ↔ (rest ≡ Some k))
    → (option_and_then F (option_and_then (λ m. if nat_le m n then Some (n - m) else None) s) ≡ Some 0)
    ↔ (option_and_then (λ m. option_map (λ k. m + k) rest) s ≡ Some n)
one_value n None rest F h = (λ y. absurd (none-some 0 y), λ q. absurd (none-some n q))
one_value n (Some m) rest F h = at_most n m rest F h (nat_le m n) refl

one_share : (is : List PlainInst) (c n : ℕ) (o : Option ℕ) (os : Option (List ℕ)) (F : ℕ → Option ℕ)
    → ((m : ℕ) → (F m ≡ Some 0) ↔ (option_and_then (shares_of is c) os ≡ Some m))
    → (option_and_then F (option_and_then (λ m. if nat_le m n then Some (n - m) else None)
    (option_and_then (share_of is c) o)) ≡ Some 0)
    ↔ (option_and_then (shares_of is c) (option_and_then (λ t. option_map (λ ts. t ∷ ts) os) o) ≡ Some n)
one_share is c n None os F h = (λ y. absurd (none-some 0 y), λ q. absurd (none-some n q))
one_share is c n (Some t) None F h = (
  λ y. option_and_then_some F (option_and_then (λ m. if nat_le m n then Some (n - m) else None) (share_of is c t)) 0 y
      (λ m i z. absurd (none-some m ((h m).0 z))),
  λ q. absurd (none-some n q),
)
one_share is c n (Some t) (Some ts) F h = one_value n (share_of is c t) (shares_of is c ts) F h

pub shares_left : (is : List PlainInst) (c n : ℕ) (xs : List ℕ)
    → (left_of_all is c n xs ≡ Some 0) ↔ (option_and_then (shares_of is c) (types_of is xs) ≡ Some n)
shares_left is c n [] = (
  λ e. let z : n ≡ 0 = cc in ap Some (let y : 0 ≡ n = omega arith in y),
  λ e. let z : 0 ≡ n = cc in
      ap Some (let y : n ≡ 0 = omega arith in y),
)
shares_left is c n (x ∷ xs) =
    one_share is c n (type_of is x) (types_of is xs) (λ m. left_of_all is c m xs) (λ m. shares_left is c m xs)

shares_some : (is : List PlainInst) (c n : ℕ) (o : Option (List ℕ))
    → (option_and_then (shares_of is c) o ≡ Some n) ↔ IsSomeAnd o (λ ts. shares_of is c ts ≡ Some n)
shares_some is c n None = (λ e. absurd (none-some n e), λ q. absurd q)
shares_some is c n (Some ts) = (λ e. e, λ e. e)

pub adds_typed : (is : List PlainInst) (c n : ℕ) (xs : List ℕ)
    → ((left_of_all is c n xs ≡ Some 0) × (1 < length xs))
    ↔ IsSomeAnd (types_of is xs) (λ ts. (1 < length ts) × (shares_of is c ts ≡ Some n))
adds_typed is c n xs =
    let d = shares_left is c n xs in
    let s = shares_some is c n (types_of is xs) in
    let e = and_each (λ ts. (1 < length ts) × (shares_of is c ts ≡ Some n)) (λ ts. shares_of is c ts ≡ Some n)
    (1 < length xs) (types_of is xs)
    (λ ts t. let l = length-types_of is xs ts t in (λ a. (rw (sym l) a.0, a.1), λ b. (rw l b.0, b.1))) in
    (λ p. e.0 (p.1, s.0 (d.0 p.0)), λ q. let both = e.1 q in (d.1 (s.1 both.1), both.0))

chain_of : (is : List PlainInst) (r o x : ℕ) (xs : List ℕ) (A : Type 0) (os : Option (List ℕ))
    → A ↔ IsSomeAnd os (AllByRecursion (IsSomeInt is))
    → (A × LeadsByPointer is r o xs) ↔ IsSomeAnd (option_map (λ ts. o ∷ ts) os) (λ ts. Chains is r ts (x ∷ xs))
chain_of is r o x xs A None h = (λ p. h.0 p.0, λ n. absurd n)
chain_of is r o x xs A (Some ts) h = (λ p. (h.0 p.0, p.1), λ q. (h.1 q.0, q.1))

pub chain_typed : (is : List PlainInst) (r o x : ℕ) (xs : List ℕ) → type_of is x ≡ Some o
    → ((list_all (has_int is) xs ≡ true) × LeadsByPointer is r o xs)
    ↔ IsSomeAnd (types_of is (x ∷ xs)) (λ ts. Chains is r ts (x ∷ xs))
chain_typed is r o x xs e =
    rw e (chain_of is r o x xs (list_all (has_int is) xs ≡ true) (types_of is xs) (ints_typed is xs))

element_of : (is : List PlainInst) (r o p x y : ℕ) (xs : List ℕ) (A : Type 0) (os : Option (List ℕ))
    → A ↔ IsSomeAnd os (AllByRecursion (IsSomeInt is))
    → (IsSomeInt is p × A × LeadsByPointer is r o xs)
    ↔ IsSomeAnd (option_map (λ ts. o ∷ ts) (option_map (λ ts. p ∷ ts) os))
    (λ ts. ChainsByElement is r ts (x ∷ y ∷ xs))
element_of is r o p x y xs A None h = (λ q. h.0 q.1, λ n. absurd n)
element_of is r o p x y xs A (Some ts) h = (λ q. (q.0, h.0 q.1, q.2), λ q. (q.0, h.1 q.1, q.2))

pub element_typed : (is : List PlainInst) (r o p x y : ℕ) (xs : List ℕ) → type_of is x ≡ Some o → type_of is y ≡ Some p
    → (IsSomeInt is p × (list_all (has_int is) xs ≡ true) × LeadsByPointer is r o xs)
    ↔ IsSomeAnd (types_of is (x ∷ y ∷ xs)) (λ ts. ChainsByElement is r ts (x ∷ y ∷ xs))
element_typed is r o p x y xs e f =
    rw (e, f) (element_of is r o p x y xs (list_all (has_int is) xs ≡ true) (types_of is xs) (ints_typed is xs))

-- a fact that does not speak of the types stands apart
pub apart : (Q : Type 0) (P : List ℕ → Type 0) (o : Option (List ℕ))
    → (Q × IsSomeAnd o P) ↔ IsSomeAnd o (λ ts. Q × P ts)
apart Q P None = (λ a. a.1, λ n. absurd n)
apart Q P (Some ts) = (λ a. a, λ b. b)
