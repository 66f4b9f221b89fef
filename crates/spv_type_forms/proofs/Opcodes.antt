-- A test that passes for each opcode of some, and for each row of the table of shapes with its opcodes.
use Rattle.std.proofs.Common.{◌≡◌, ◌≤◌, ◌<◌, ◌+◌, ◌-◌, ◌&&◌, ℕ, zero, suc, nat_le, List, [], ◌∷◌, Some, Bool, true}
use Rattle.std.proofs.Common.{false, if◌then◌else◌, refl, arith}
use Rattle.std.proofs.lemmas.Bool.{leb-true, leb-false}
use Rattle.std.proofs.lemmas.Option.{none-some}
use Rattle.spv_layout.specs.Row.{PlainRow, row_in}

pub both : (a b : Bool) → a && b ≡ true → (a ≡ true) × (b ≡ true)
both true b h = (refl, h)
both false b h = cc

pub and_yes : (a b : Bool) → a ≡ true → b ≡ true → a && b ≡ true
and_yes a b e f = rw (e, f) refl

-- so many numbers from one on
abbrev pub all_from : (ℕ → Bool) → ℕ → ℕ → Bool
all_from p m zero = true
all_from p m (suc k) = p m && all_from p (m + 1) k

not_le : (n m : ℕ) → nat_le n m ≡ false → m + 1 ≤ n
not_le n m e = omega (arith, leb-false n m e)

one_next : (p : ℕ → Bool) (k m n : ℕ) → p m ≡ true → (b : Bool) → nat_le n m ≡ b → m ≤ n → (m + 1 ≤ n → p n ≡ true)
    → p n ≡ true
one_next p k m n h true e l more = let same : n ≡ m = omega (arith, leb-true n m e) in rw same h
one_next p k m n h false e l more = more (not_le n m e)

pub one_from : (p : ℕ → Bool) (k m n : ℕ) → all_from p m k ≡ true → m ≤ n → n < m + k → p n ≡ true
one_from p zero m n h l u = absurd (let no : n < m = omega arith in omega arith)
one_from p (suc k) m n h l u =
    one_next p k m n (both (p m) (all_from p (m + 1) k) h).0 (nat_le n m) refl l
    (λ v. one_from p k (m + 1) n (both (p m) (all_from p (m + 1) k) h).1 v (omega arith))

abbrev pub all_pass : (ℕ → PlainRow → Bool) → List PlainRow → Bool
all_pass t [] = true
all_pass t (r ∷ rs) = all_from (λ n. t n r) r.from (r.to + 1 - r.from) && all_pass t rs

one_here : (t : ℕ → PlainRow → Bool) (q : PlainRow) (rs : List PlainRow) (n : ℕ) (r : PlainRow) (b : Bool)
    → nat_le q.from n && nat_le n q.to ≡ b → all_pass t (q ∷ rs) ≡ true
    → (if b then Some q else row_in rs n) ≡ Some r → (all_pass t rs ≡ true → row_in rs n ≡ Some r → t n r ≡ true)
    → t n r ≡ true
one_here t q rs n r true w h e rest =
    let same : q ≡ r = cc in
    let two = both (nat_le q.from n) (nat_le n q.to) w in
    let low : q.from ≤ n = leb-true q.from n two.0 in
    let high : n ≤ q.to = leb-true n q.to two.1 in
    let test : ℕ → Bool = λ m. t m q in
    let all = both (all_from test q.from (q.to + 1 - q.from)) (all_pass t rs) h in
    rw (← same) (one_from test (q.to + 1 - q.from) q.from n all.0 low (omega arith))
one_here t q rs n r false w h e rest =
    let test : ℕ → Bool = λ m. t m q in
    rest (both (all_from test q.from (q.to + 1 - q.from)) (all_pass t rs) h).1 e

pub one_passes : (t : ℕ → PlainRow → Bool) (rs : List PlainRow) (n : ℕ) (r : PlainRow) → all_pass t rs ≡ true
    → row_in rs n ≡ Some r → t n r ≡ true
one_passes t [] n r h e = absurd (none-some r e)
one_passes t (q ∷ rs) n r h e =
    one_here t q rs n r (nat_le q.from n && nat_le n q.to) refl h e (λ k l. one_passes t rs n r k l)
