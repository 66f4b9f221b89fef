-- Bits of words.
use Rattle.std.proofs.Common.{◌≡◌, ◌<◌, ◌-◌, ◌/◌, ◌^◌, ◌∙◌, ◌⊎◌, ◌↔◌, inl, inr, ℕ, Bool, true, false, not, nat_eq}
use Rattle.std.proofs.Common.{bit_and, bit_or, w64, refl, sym, ap, arith, subst, IsTrue, min, max}
use Rattle.std.specs.Int.{bit_at, trailing_zeros}
use Rattle.std.proofs.lemmas.Bool.{cases_lt, cases_order, eqb-true, eq-eqb}
use Rattle.std.proofs.lemmas.Nat.{and_le_l}
use Rattle.std.proofs.lemmas.Nat.Bits.{bit_at_or, bit_at_and, bit_at_not, bit_at-lt, bit_at-zero, bit_at-pow_same}
use Rattle.std.proofs.lemmas.Nat.Bits.{bit_at-pow_other, bit_at_above, bit_at-trailing_zeros, shr_and_one}
use Rattle.spv_interfaces.specs.inner.Marks.{HasBit}

-- A bit is 0 or 1.
one_of_max : (a b m : ℕ) → m ≡ max a b → a < 2 → m ≡ 1 → (a ≡ 1) ⊎ (b ≡ 1)
one_of_max a b m e p h = elim (cases_lt a 1) [
  | inl l ↦ inr (omega (arith, e, h, l))
  | inr g ↦ inl (omega (arith, p, g))
]

max_left : (a b m : ℕ) → m ≡ max a b → b < 2 → a ≡ 1 → m ≡ 1
max_left a b m e q h = omega arith

max_right : (a b m : ℕ) → m ≡ max a b → a < 2 → b ≡ 1 → m ≡ 1
max_right a b m e q h = omega arith

min_left : (a b m : ℕ) → m ≡ min a b → a < 2 → m ≡ 1 → a ≡ 1
min_left a b m e q h = omega arith

min_right : (a b m : ℕ) → m ≡ min a b → b < 2 → m ≡ 1 → b ≡ 1
min_right a b m e q h = omega arith

min_both : (a b m : ℕ) → m ≡ min a b → a ≡ 1 → b ≡ 1 → m ≡ 1
min_both a b m e p q = omega arith

no_one : (b : ℕ) → b ≡ 0 → b ≡ 1 → ⊥
no_one b z h = absurd (omega arith)

pub has_or_not : (n k : ℕ) → HasBit n k ⊎ ¬ (HasBit n k)
has_or_not n k = by_bit (bit_at n k) refl (bit_at-lt n k) where
  by_bit : (b : ℕ) → bit_at n k ≡ b → b < 2 → HasBit n k ⊎ ¬ (HasBit n k)
  by_bit b e l = elim (cases_lt b 1) [
    | inl z ↦ inr (λ h. no_one (bit_at n k) (e ∙ omega (arith, z)) h.bit)
    | inr g ↦ inl (record { bit = e ∙ omega (arith, l, g) })
  ]

pub none_of_zero : (k : ℕ) → ¬ (HasBit 0 k)
none_of_zero k h = no_one (bit_at 0 k) (bit_at-zero k) h.bit

-- the bits of either of two words; of both
pub or_told : (a b k : ℕ) → HasBit (bit_or a b) k → HasBit a k ⊎ HasBit b k
or_told a b k h = elim (one_of_max (bit_at a k) (bit_at b k) (bit_at (bit_or a b) k) (bit_at_or a b k)
    (bit_at-lt a k) h.bit) [
      | inl e ↦ inl (record { bit = e })
      | inr e ↦ inr (record { bit = e })
    ]

pub or_left : (a b k : ℕ) → HasBit a k → HasBit (bit_or a b) k
or_left a b k h = record {
  bit = max_left (bit_at a k) (bit_at b k) (bit_at (bit_or a b) k) (bit_at_or a b k) (bit_at-lt b k) h.bit;
}

pub or_right : (a b k : ℕ) → HasBit b k → HasBit (bit_or a b) k
or_right a b k h = record {
  bit = max_right (bit_at a k) (bit_at b k) (bit_at (bit_or a b) k) (bit_at_or a b k) (bit_at-lt a k) h.bit;
}

pub and_left : (a b k : ℕ) → HasBit (bit_and a b) k → HasBit a k
and_left a b k h = record {
  bit = min_left (bit_at a k) (bit_at b k) (bit_at (bit_and a b) k) (bit_at_and a b k) (bit_at-lt a k) h.bit;
}

pub and_right : (a b k : ℕ) → HasBit (bit_and a b) k → HasBit b k
and_right a b k h = record {
  bit = min_right (bit_at a k) (bit_at b k) (bit_at (bit_and a b) k) (bit_at_and a b k) (bit_at-lt b k) h.bit;
}

pub and_both : (a b k : ℕ) → HasBit a k → HasBit b k → HasBit (bit_and a b) k
and_both a b k h g = record {
  bit = min_both (bit_at a k) (bit_at b k) (bit_at (bit_and a b) k) (bit_at_and a b k) h.bit g.bit;
}

-- a word of 64 bits has none above
pub bit_below : (n k : ℕ) → n < 2 ^ 64 → HasBit n k → k < 64
bit_below n k l h = elim (cases_lt k 64) [
  | inl p ↦ p
  | inr g ↦ absurd (no_one (bit_at n k) (bit_at_above n 64 k l g) h.bit)
]

not_by : (n b c : ℕ) → c ≡ 1 - b → b < 2 → (b ≡ 1 → ⊥) → c ≡ 1
not_by n b c e l never = elim (cases_lt b 1) [
  | inl z ↦ omega (arith, e, z)
  | inr g ↦ absurd (never (omega (arith, l, g)))
]

not_one : (b c : ℕ) → c ≡ 1 - b → b ≡ 1 → c ≡ 1 → ⊥
not_one b c e h g = absurd (omega arith)

-- the bits that a word has not
pub not_told : (n k : ℕ) → n < 2 ^ 64 → HasBit (18446744073709551615 - n) k → ¬ (HasBit n k)
not_told n k l h g =
    let below = bit_below n k l g in
    not_one (bit_at n k) (bit_at (18446744073709551615 - n) k) (bit_at_not w64 n k l below) g.bit h.bit

pub not_bit : (n k : ℕ) → n < 2 ^ 64 → k < 64 → ¬ (HasBit n k) → HasBit (18446744073709551615 - n) k
not_bit n k l below never = record {
  bit = not_by n (bit_at n k) (bit_at (18446744073709551615 - n) k) (bit_at_not w64 n k l below) (bit_at-lt n k)
      (λ e. never (record { bit = e }));
}

-- one bit
pub pow_told : (k j : ℕ) → HasBit (2 ^ k) j → j ≡ k
pow_told k j h = elim (cases_order j k) [
  | inl e ↦ e
  | inr r ↦
      let apart : j ≡ k → ⊥ =
      λ e. elim r [ inl a ↦ absurd (omega (arith, a, e)) | inr b ↦ absurd (omega (arith, b, e)) ] in
      absurd (no_one (bit_at (2 ^ k) j) (bit_at-pow_other k j apart) h.bit)
]

pub pow_bit : (k : ℕ) → HasBit (2 ^ k) k
pow_bit k = record { bit = bit_at-pow_same k }

-- a word that is not 0 has a bit
pub some_bit : (n : ℕ) → 0 < n → n < 2 ^ 64 → (k : ℕ) × HasBit n k
some_bit n p l = let t = bit_at-trailing_zeros w64 n p l in (trailing_zeros w64 n, record { bit = t.1 })

not_zero : (n : ℕ) → not (nat_eq n 0) ≡ true → 0 < n
not_zero n t = elim (cases_lt 0 n) [
  | inl p ↦ p
  | inr z ↦
      let e : n ≡ 0 = omega (arith, z) in
      let f : nat_eq n 0 ≡ true = eq-eqb n 0 e in
      let no : false ≡ true = sym (ap not f) ∙ t in
      absurd (cc)
]

is_not_zero : (n : ℕ) → (n ≡ 0 → ⊥) → not (nat_eq n 0) ≡ true
is_not_zero n never = by_test (nat_eq n 0) refl where
  by_test : (b : Bool) → nat_eq n 0 ≡ b → not (nat_eq n 0) ≡ true
  by_test true e = absurd (never (eqb-true n 0 e))
  by_test false e = ap not e

-- some bit is of one word and not of the other
pub open_bit : (a b : ℕ) → a < 2 ^ 64 → b < 2 ^ 64
    → IsTrue (not (nat_eq (bit_and a (18446744073709551615 - b)) 0)) ↔ ((k : ℕ) × HasBit a k × ¬ (HasBit b k))
open_bit a b l m =
    let c = 18446744073709551615 - b in
    let w = bit_and a c in (
      λ t.
          let u = and_le_l a c in
          let s = some_bit w (not_zero w t) (omega (arith, u, l)) in
          (s.0, and_left a c s.0 s.1, not_told b s.0 m (and_right a c s.0 s.1)),
      λ h. is_not_zero w (λ e.
          let below = bit_below a h.0 l h.1 in
          let g = and_both a c h.0 h.1 (not_bit b h.0 m below h.2) in
          none_of_zero h.0 (subst (λ (n : ℕ). HasBit n h.0) e g)),
    )

pub shift_tells : (n k : ℕ) → IsTrue (nat_eq (bit_and (n / 2 ^ k) 1) 1) ↔ HasBit n k
shift_tells n k =
    let e = shr_and_one n k in (
      λ t. record { bit = sym e ∙ eqb-true (bit_and (n / 2 ^ k) 1) 1 t },
      λ h. eq-eqb (bit_and (n / 2 ^ k) 1) 1 (e ∙ h.bit),
    )
