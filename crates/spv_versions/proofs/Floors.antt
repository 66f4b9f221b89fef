-- Numbers that none that is missing is below.
use Rattle.std.proofs.Common.{◌≡◌, ◌<◌, ◌≤◌, ◌/◌, ◌%◌, ◌^◌, ◌∙◌, ℕ, List, Bool, true, false, Option, Some, None, ap, subst, inl, inr}
use Rattle.std.proofs.Common.{arith}
use Rattle.std.specs.Prelude.{slice_get, slice_index, slice_index_or}
use Rattle.std.proofs.Math.Nat.{div-eq_of_lt}
use Rattle.std.proofs.lemmas.Bool.{cases_lt}
use Rattle.std.proofs.lemmas.Option.{get_or_from_slice_get}
use Rattle.spv_versions.specs.declared.table.Kind.{Kind}
use Rattle.spv_versions.specs.Named.{IsSetBit}
use Rattle.spv_versions.specs.inner.Told.{AreLeast, IsAnyHit, IsHit, kinds, place_of}
use Rattle.spv_versions.proofs.Numbering.{kind_within}

-- a set bit of a mask is not above the mask
bit_within : (m v : ℕ) → IsSetBit m v → v ≤ m
bit_within m v set = elim (cases_lt m (2 ^ set.0)) [
  | inl a ↦
      let none : m / 2 ^ set.0 ≡ 0 = div-eq_of_lt a in
      let one : 0 % 2 ≡ 1 = subst (λ (q : ℕ). q % 2 ≡ 1) none set.2 in absurd (omega (arith, one))
  | inr b ↦ let e = set.3 in omega (arith, b, e)
]

hit_above : (flags : List Bool) (least : List ℕ) (k : Kind) (is_mask : Bool) (v : ℕ) → AreLeast flags least
    → IsHit flags k is_mask v → slice_index least (place_of k) ≤ v
hit_above flags least k false v all h = all k v h
hit_above flags least k true m all h =
    let w = bit_within m h.0 h.1 in
    let l = all k h.0 h.2 in omega (arith, w, l)

-- the floor of each kind that has a number
abbrev pub ArePlaced : List (Option ℕ) → List ℕ → List ℕ → ℕ → Type 0
ArePlaced ns least floors p = (k : Kind) (j : ℕ) → slice_get kinds p ≡ Some k → slice_index_or ns p None ≡ Some j
    → j < 64 → slice_index floors j ≤ slice_index least (place_of k)

pub placed_here : (ns : List (Option ℕ)) (least floors : List ℕ) (p low : ℕ) (ks : List Kind) (d : Kind) → ks ≡ kinds
    → low ≡ slice_index least (place_of (slice_index_or ks p d))
    → ((j : ℕ) → slice_index_or ns p None ≡ Some j → j < 64 → slice_index floors j ≤ low)
    → ArePlaced ns least floors p
placed_here ns least floors p low ks d same is own k j at n within =
    let here : slice_index_or ks p d ≡ k =
    ap (λ (qs : List Kind). slice_index_or qs p d) same ∙ get_or_from_slice_get kinds p k d at in
    let low_is : low ≡ slice_index least (place_of k) = is ∙ ap (λ (q : Kind). slice_index least (place_of q)) here in
    let b = own j n within in omega (arith, b, low_is)

pub placed_lower : (ns : List (Option ℕ)) (least old new : List ℕ) (p : ℕ)
    → ((j : ℕ) → slice_index new j ≤ slice_index old j) → ArePlaced ns least old p → ArePlaced ns least new p
placed_lower ns least old new p less placed k j at n within =
    let a = less j in
    let b = placed k j at n within in omega (arith, a, b)

pub all_floors : (flags : List Bool) (ns : List (Option ℕ)) (least floors : List ℕ) (n : ℕ) → 9 ≤ n
    → ((p : ℕ) → p < n → ArePlaced ns least floors p) → AreLeast flags least
    → (j v : ℕ) (is_mask : Bool) → j < 64 → IsAnyHit flags ns j is_mask v → slice_index floors j ≤ v
all_floors flags ns least floors n many placed all j v is_mask within h =
    let p = h.0 in
    let k = h.1.0 in
    let w = kind_within p k h.1.1 in
    let a = placed p (omega (arith, w, many)) k j h.1.1 h.1.2 within in
    let b = hit_above flags least k is_mask v all h.1.3 in omega (arith, a, b)
