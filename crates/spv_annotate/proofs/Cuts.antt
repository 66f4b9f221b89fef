-- Where a long name is cut.
use Rattle.std.proofs.Common.{◌≡◌, ◌<◌, ◌≤◌, ◌+◌, ℕ, zero, suc, List, [], ◌∷◌, Bool, true, false, ◌&&◌, length, refl}
use Rattle.std.proofs.Common.{subst, arith, inl, inr}
use Rattle.std.specs.Prelude.{nat_le, nat_lt, slice_index, take, if◌then◌else◌}
use Rattle.std.specs.Str.{IsCharBoundary}
use Rattle.std.proofs.lemmas.Bool.{cases_lt}
use Rattle.std.proofs.lemmas.Bool.Decides.{nat_tests}
use Rattle.spv_annotate.specs.Notes.{beginning_of, cut_at}

-- a character goes on with an octet from 128 to 191
goes_on : (b : ℕ) → (nat_le 128 b && nat_lt b 192) ≡ true → (128 ≤ b) × (b < 192)
goes_on b e = (grind (arith, nat_tests), grind (arith, nat_tests))

stops : (b : ℕ) → (nat_le 128 b && nat_lt b 192) ≡ false → 128 ≤ b → 192 ≤ b
stops b e l = grind (arith, nat_tests)

at_last : (t : List ℕ) (k r : ℕ) → k + 1 < length t → (128 ≤ slice_index t (suc k)) × (slice_index t (suc k) < 192)
    → r ≡ suc k → IsCharBoundary t r → ⊥
at_last t k r l g e b =
    let c : IsCharBoundary t (suc k) = subst (IsCharBoundary t) e b in
    let h = c.1 (omega arith) g.0 in
    let m = g.1 in
    omega arith

pub cut_floor : (t : List ℕ) (k r : ℕ) → k < length t → r ≤ k → IsCharBoundary t r
    → ((i : ℕ) → r < i → i ≤ k → ¬ (IsCharBoundary t i)) → cut_at t k ≡ r
unfolding cut_at
cut_floor t zero r l m b n = omega arith
cut_floor t (suc k) r l m b n =
    split (nat_le 128 (slice_index t (suc k)) && nat_lt (slice_index t (suc k)) 192) refl
    (λ o. cut_floor t k r (omega arith) o b (λ i p q. n i p (omega arith)))
  where
    split : (z : Bool) → (nat_le 128 (slice_index t (suc k)) && nat_lt (slice_index t (suc k)) 192) ≡ z
        → (r ≤ k → cut_at t k ≡ r) → cut_at t (suc k) ≡ r
    split true e ih =
        let g = goes_on (slice_index t (suc k)) e in
        rw e (elim (cases_lt r (suc k)) [
          | inl low ↦ ih (omega arith)
          | inr high ↦ absurd (at_last t k r (omega arith) g (omega arith) b)
        ])
    split false e ih =
        rw e (elim (cases_lt r (suc k)) [
          | inl low ↦ absurd (n (suc k) low (omega arith) (omega arith, λ p q. stops (slice_index t (suc k)) e q))
          | inr high ↦ omega arith
        ])

-- what is left has no more octets than that

cut_most : (t : List ℕ) (k : ℕ) → cut_at t k ≤ k
unfolding cut_at
cut_most t zero = omega arith
cut_most t (suc k) = split (nat_le 128 (slice_index t (suc k)) && nat_lt (slice_index t (suc k)) 192) (cut_most t k)
  where
    split : (z : Bool) → cut_at t k ≤ k → (if z then cut_at t k else suc k) ≤ suc k
    split true h = omega (arith, h)
    split false h = omega arith

take_short : (n : ℕ) (t : List ℕ) → length (take n t) ≤ n
take_short zero t = omega arith
take_short (suc n) [] = omega arith
take_short (suc n) (b ∷ t) = let h = take_short n t in omega (arith, h)

pub beginning_short : (k : ℕ) (t : List ℕ) → length (beginning_of k t) ≤ k
beginning_short k t = split (nat_le (length t) k) refl
  where
    split : (z : Bool) → nat_le (length t) k ≡ z → length (if z then t else take (cut_at t k) t) ≤ k
    split true e = grind (arith, nat_tests)
    split false e = let m = cut_most t k in let l = take_short (cut_at t k) t in omega (arith, m, l)
