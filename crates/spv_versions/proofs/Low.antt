-- The bits of the numbers below 64 that a line is of.
use Rattle.std.proofs.Common.{◌≡◌, ◌<◌, ◌≤◌, ◌||◌, ◌&&◌, ◌∙◌, ℕ, zero, suc, List, Bool, true, false, Option, Some}
use Rattle.std.proofs.Common.{None, max, nat_lt, nat_eq, bit_or, drop, get_or, set, length}
use Rattle.std.proofs.Common.{refl, sym, ap, subst, inl, inr, arith, get_or-set_other, get_or-set_same}
use Rattle.std.specs.Int.{bit_at}
use Rattle.std.specs.Prelude.{slice_get, slice_index, slice_index_or}
use Rattle.std.specs.List.{list_all}
use Rattle.std.proofs.lemmas.Bool.{and_parts, cases_eq, eqb-true, ltb-true, true≢false}
use Rattle.std.proofs.lemmas.Nat.Bits.{bit_at_or, bit_at-lt}
use Rattle.std.proofs.lemmas.Option.{get_or_from_slice_get}
use Rattle.spv_versions.specs.declared.table.Kind.{Kind}
use Rattle.spv_versions.specs.Table.{Line, lines}
use Rattle.spv_versions.specs.inner.Told.{IsAnyHit, kinds, low, place_of}
use Rattle.spv_versions.specs.inner.Lines.{IsListed}
use Rattle.spv_versions.proofs.Numbering.{kind_within}
use Rattle.spv_versions.proofs.Undated.{all_behind}

-- a line is not of a number, or that has its bit
abbrev is_told : Line → ℕ → Bool
is_told l n = (nat_lt n l.1 || nat_lt l.2 n) || nat_eq (bit_at (slice_index low (place_of l.0)) n) 1

abbrev are_told : ℕ → Line → Bool
are_told zero l = true
are_told (suc n) l = is_told l n && are_told n l

each_told : list_all (are_told 64) (drop 0 lines) ≡ true
unfolding lines low
each_told = refl

one_told : (l : Line) (m n : ℕ) → are_told m l ≡ true → n < m → is_told l n ≡ true
one_told l zero n t w = absurd (omega (arith, w))
one_told l (suc m) n t w = elim (cases_eq n m) [
  | inl same ↦ ap (is_told l) same ∙ (and_parts (is_told l m) (are_told m l) t).0
  | inr apart ↦
      let v : n < suc m = w in
      one_told l m n (and_parts (is_told l m) (are_told m l) t).1 (omega (arith, v, apart))
]

bit_told : (a b c : Bool) → ((a || b) || c) ≡ true → a ≡ false → b ≡ false → c ≡ true
bit_told true b c t e f = absurd (true≢false e)
bit_told false true c t e f = absurd (true≢false f)
bit_told false false c t e f = t

not_lt : (m n : ℕ) → n ≤ m → nat_lt m n ≡ false
not_lt m n l = by_test (nat_lt m n) refl where
  by_test : (b : Bool) → nat_lt m n ≡ b → nat_lt m n ≡ false
  by_test true e = absurd (let u = ltb-true m n e in omega (arith, u, l))
  by_test false e = e

low_listed : (flags : List Bool) (k : Kind) (n : ℕ) → n < 64 → IsListed lines flags k n
    → bit_at (slice_index low (place_of k)) n ≡ 1
low_listed flags k n w h =
    let l = h.1.0 in
    let t = one_told l 64 n (all_behind (are_told 64) lines 0 h.0 l each_told (omega arith) h.1.1) w in
    let bit = bit_told (nat_lt n l.1) (nat_lt l.2 n) (nat_eq (bit_at (slice_index low (place_of l.0)) n) 1) t
    (not_lt n l.1 h.1.3.1) (not_lt l.2 n h.1.3.2) in
    subst (λ (q : Kind). bit_at (slice_index low (place_of q)) n ≡ 1) h.1.3.0 (eqb-true _ 1 bit)

-- bits of either of two words
either : (a b m : ℕ) → m ≡ max a b → a < 2 → b < 2 → a ≡ 1 → m ≡ 1
either a b m e p q h = omega arith

or_other : (a b m : ℕ) → m ≡ max a b → a < 2 → b < 2 → b ≡ 1 → m ≡ 1
or_other a b m e p q h = omega arith

pub old_bit : (a b v : ℕ) → bit_at a v ≡ 1 → bit_at (bit_or a b) v ≡ 1
old_bit a b v h = either (bit_at a v) (bit_at b v) _ (bit_at_or a b v) (bit_at-lt a v) (bit_at-lt b v) h

pub new_bit : (a b v : ℕ) → bit_at b v ≡ 1 → bit_at (bit_or a b) v ≡ 1
new_bit a b v h = or_other (bit_at a v) (bit_at b v) _ (bit_at_or a b v) (bit_at-lt a v) (bit_at-lt b v) h

-- the word of each kind that has a number
abbrev pub ArePlaced : List (Option ℕ) → List ℕ → ℕ → Type 0
ArePlaced ns words p = (k : Kind) (j v : ℕ) → slice_get kinds p ≡ Some k → slice_index_or ns p None ≡ Some j
    → j < 64 → bit_at (slice_index low (place_of k)) v ≡ 1 → bit_at (slice_index words j) v ≡ 1

pub placed_here : (ns : List (Option ℕ)) (words : List ℕ) (p bits : ℕ) (ks : List Kind) (d : Kind) → ks ≡ kinds
    → bits ≡ slice_index low (place_of (slice_index_or ks p d))
    → ((j v : ℕ) → slice_index_or ns p None ≡ Some j → j < 64 → bit_at bits v ≡ 1 → bit_at (slice_index words j) v ≡ 1)
    → ArePlaced ns words p
placed_here ns words p bits ks d same is own k j v at n within set =
    let here : slice_index_or ks p d ≡ k =
    ap (λ (qs : List Kind). slice_index_or qs p d) same ∙ get_or_from_slice_get kinds p k d at in
    let bits_are : bits ≡ slice_index low (place_of k) = is ∙ ap (λ (q : Kind). slice_index low (place_of q)) here in
    own j v n within (subst (λ (b : ℕ). bit_at b v ≡ 1) (sym bits_are) set)

pub placed_more : (ns : List (Option ℕ)) (old new : List ℕ) (p : ℕ)
    → ((j v : ℕ) → bit_at (slice_index old j) v ≡ 1 → bit_at (slice_index new j) v ≡ 1) → ArePlaced ns old p
    → ArePlaced ns new p
placed_more ns old new p more placed k j v at n within set = more j v (placed k j v at n within set)

pub all_placed : (flags : List Bool) (ns : List (Option ℕ)) (words : List ℕ) (n : ℕ) → 9 ≤ n
    → ((p : ℕ) → p < n → ArePlaced ns words p) → (j v : ℕ) → j < 64 → v < 64 → IsAnyHit flags ns j false v
    → bit_at (slice_index words j) v ≡ 1
all_placed flags ns words n many placed j v within small h =
    let p = h.0 in
    let k = h.1.0 in
    let w = kind_within p k h.1.1 in
    placed p (omega (arith, w, many)) k j v h.1.1 h.1.2 within (low_listed flags k v small h.1.3)

-- a word to which bits are added
pub set_other : (words : List ℕ) (place bits j v : ℕ) → place < length words → bit_at (get_or words j 0) v ≡ 1
    → bit_at (get_or (set words place (bit_or (get_or words place 0) bits)) j 0) v ≡ 1
set_other words place bits j v within h = elim (cases_eq j place) [
  | inl same ↦
      let word = bit_or (get_or words place 0) bits in
      let here : get_or (set words place word) place 0 ≡ word = rw get_or-set_same refl in
      let there : get_or (set words place word) j 0 ≡ word =
      ap (λ (q : ℕ). get_or (set words place word) q 0) same ∙ here in
      let before = subst (λ (q : ℕ). bit_at (get_or words q 0) v ≡ 1) same h in
      subst (λ (w : ℕ). bit_at w v ≡ 1) (sym there) (old_bit (get_or words place 0) bits v before)
  | inr apart ↦ rw get_or-set_other h
]

pub set_own : (words : List ℕ) (place bits v : ℕ) → place < length words → bit_at bits v ≡ 1
    → bit_at (get_or (set words place (bit_or (get_or words place 0) bits)) place 0) v ≡ 1
set_own words place bits v within h =
    let word = bit_or (get_or words place 0) bits in
    let here : get_or (set words place word) place 0 ≡ word = rw get_or-set_same refl in
    subst (λ (w : ℕ). bit_at w v ≡ 1) (sym here) (new_bit (get_or words place 0) bits v h)
