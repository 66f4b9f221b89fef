-- The literals of an OpSwitch: gathered, brought into order, and looked through.
use Rattle.std.proofs.Common.{◌≡◌, ◌≢◌, ◌<◌, ◌≤◌, ◌∙◌, ◌+◌, ◌++◌, ℕ, List, [], ◌∷◌, Some, None, length, take}
use Rattle.std.proofs.Common.{nat_cmp, ◌/◌, ◌*◌, IsTrue, not, eqb, Option, Contains, ◌^◌}
use Rattle.std.proofs.Math.Nat.{div-eq_of_lt, lt-div-mul-add, one-le-pow, pow-le-pow_right}
use Rattle.std.proofs.Common.{get_or, refl, sym, ap, subst, inl, inr, arith}
use Rattle.std.specs.Prelude.{slice_get, filter_map}
use Rattle.std.specs.List.{swap}
use Rattle.std.specs.List.Sorted.{IsPermutation, IsSorted}
use Rattle.std.proofs.lemmas.List.{append-nil, map-append, take_more}
use Rattle.std.proofs.lemmas.List.Edits.{length-swap, swapped_from_swap}
use Rattle.std.proofs.lemmas.List.Elements.{filter_map-append}
use Rattle.std.proofs.lemmas.List.Sorted.{IsNonDecreasingBy-from_sort, IsPermutation-keeps}
use Rattle.std.proofs.lemmas.Bool.{cases_eq, cases_lt, cases_order, eq-eqb, false≢true, ne_eqb}
use Rattle.std.proofs.lemmas.Option.{same_Some, slice_get-get_or, slice_get_within}
use Rattle.std.proofs.lemmas.List.Edits.{Swapped}
use Rattle.spv_module.specs.Operand.{Plain, PlainInst}
use Rattle.spv_module.specs.Module.{plain_operand, plain_operands}
use Rattle.spv_module.specs.declared.operand.Operand.{Operand}
use Rattle.spv_type_forms.specs.declared.form.Form.{Form}
use Rattle.spv_type_forms.specs.declared.form.Form.TheVariants as form
use Rattle.spv_type_forms.specs.declared.form.Scalar.TheVariants as scalar
use Rattle.spv_type_forms.specs.Types.{IsInt}
use Rattle.spv_kernel_operands.specs.Switch.{HasTwice, HasWide, literal_in, literals_of}
use Rattle.spv_kernel_operands.specs.inner.Switch.{AreRising, IsSelector}

-- one operand more
literals_front : (os : List Operand) (k : ℕ) (d : Operand) → k < length os
    → literals_of (plain_operands (take (k + 1) os))
    ≡ literals_of (plain_operands (take k os)) ++ filter_map literal_in (plain_operand (get_or os k d) ∷ [])
literals_front os k d l = ap (λ (xs : List Operand). literals_of (plain_operands xs)) (take_more os k d l)
    ∙ ap (filter_map literal_in) (map-append plain_operand (take k os) (get_or os k d ∷ []))
    ∙ filter_map-append literal_in (plain_operands (take k os)) (plain_operand (get_or os k d) ∷ [])

pub literals_one : (os : List Operand) (k : ℕ) (d : Operand) (n : ℕ) (ns : List ℕ) → k < length os
    → literal_in (plain_operand (get_or os k d)) ≡ Some n → ns ≡ literals_of (plain_operands (take k os))
    → ns ++ n ∷ [] ≡ literals_of (plain_operands (take (k + 1) os))
literals_one os k d n ns l e a =
    let one : filter_map literal_in (plain_operand (get_or os k d) ∷ []) ≡ n ∷ [] = rw e refl in
    ap (λ (xs : List ℕ). xs ++ n ∷ []) a
    ∙ sym (literals_front os k d l ∙ ap (λ (xs : List ℕ). literals_of (plain_operands (take k os)) ++ xs) one)

pub literals_none : (os : List Operand) (k : ℕ) (d : Operand) (ns : List ℕ) → k < length os
    → literal_in (plain_operand (get_or os k d)) ≡ None → ns ≡ literals_of (plain_operands (take k os))
    → ns ≡ literals_of (plain_operands (take (k + 1) os))
literals_none os k d ns l e a =
    let none : filter_map literal_in (plain_operand (get_or os k d) ∷ []) ≡ [] = rw e refl in
    a ∙ sym (literals_front os k d l ∙ ap (λ (xs : List ℕ). literals_of (plain_operands (take k os)) ++ xs) none
    ∙ append-nil (literals_of (plain_operands (take k os))))

-- what stands at a place
at_place : (ns : List ℕ) (k n : ℕ) → slice_get ns k ≡ Some n → get_or ns k 0 ≡ n
at_place ns k n e =
    same_Some (get_or ns k 0) n (sym (slice_get-get_or ns k 0 (slice_get_within ns k n e)) ∙ e)

-- a sort brings them into order
pub rising_from : (ns : List ℕ) → IsSorted nat_cmp ns → AreRising ns
rising_from ns sorted = record {
  each = λ j k m n less one other.
      let up = IsNonDecreasingBy-from_sort (λ (x : ℕ). x) ns sorted j k 0 (omega (arith, less))
      (slice_get_within ns k n other) in
      let a = at_place ns j m one in
      let b = at_place ns k n other in
      omega (arith, up, a, b);
}

-- equal literals at two places, whichever comes first
abbrev HasTwo : List ℕ → Type 0
HasTwo ns = (j : ℕ) × (k : ℕ) × (j ≢ k) × (j < length ns) × (k < length ns) × (get_or ns j 0 ≡ get_or ns k 0)

two_of : (ns : List ℕ) → HasTwice ns → HasTwo ns
two_of ns h = (
  h.first,
  h.second,
  λ e. absurd (let l = h.before in omega (arith, e, l)),
  slice_get_within ns h.first h.literal h.one,
  slice_get_within ns h.second h.literal h.other,
  at_place ns h.first h.literal h.one ∙ sym (at_place ns h.second h.literal h.other),
)

twice_at : (ns : List ℕ) (j k : ℕ) → j < k → k < length ns → get_or ns j 0 ≡ get_or ns k 0 → HasTwice ns
twice_at ns j k less l e = record {
  first = j;
  second = k;
  before = less;
  literal = get_or ns k 0;
  one = slice_get-get_or ns j 0 (omega (arith, less, l)) ∙ ap Some e;
  other = slice_get-get_or ns k 0 l;
}

twice_of : (ns : List ℕ) → HasTwo ns → HasTwice ns
twice_of ns (j, k, apart, a, b, e) = elim (cases_order j k) [
  | inl same ↦ absurd (apart same)
  | inr other ↦ elim other [
    | inl less ↦ twice_at ns j k less b e
    | inr more ↦ twice_at ns k j more a (sym e)
  ]
]

-- where an exchange of the places a and b brings what stands at j
data Moves (a b j m : ℕ) : Type 0 where
  there : j ≡ a → m ≡ b → Moves a b j m
  back : j ≡ b → m ≡ a → Moves a b j m
  stays : j ≢ a → j ≢ b → m ≡ j → Moves a b j m

moved : (xs ys : List ℕ) (a b : ℕ) → Swapped (λ i. get_or xs i 0) (λ i. get_or ys i 0) a b → (j : ℕ)
    → (m : ℕ) × (get_or ys m 0 ≡ get_or xs j 0) × Moves a b j m
moved xs ys a b s j = elim (cases_eq j a) [
  | inl e ↦ (b, s.1 ∙ ap (λ (k : ℕ). get_or xs k 0) (sym e), Moves.there e refl)
  | inr n ↦ elim (cases_eq j b) [
    | inl e ↦ (a, s.0 ∙ ap (λ (k : ℕ). get_or xs k 0) (sym e), Moves.back e refl)
    | inr o ↦ (j, s.2 j n o, Moves.stays n o refl)
  ]
]

moved_within : (a b j m l : ℕ) → a < l → b < l → j < l → Moves a b j m → m < l
moved_within a b j m l p q r (Moves.there e f) = omega (arith, q, f)
moved_within a b j m l p q r (Moves.back e f) = omega (arith, p, f)
moved_within a b j m l p q r (Moves.stays n o f) = omega (arith, r, f)

moved_apart : (a b j k m n : ℕ) → Moves a b j m → Moves a b k n → j ≢ k → m ≢ n
moved_apart a b j k m n (Moves.there e f) (Moves.there g h) apart = λ x. apart (e ∙ sym g)
moved_apart a b j k m n (Moves.there e f) (Moves.back g h) apart =
    λ x. apart (e ∙ sym h ∙ sym x ∙ f ∙ sym g)
moved_apart a b j k m n (Moves.there e f) (Moves.stays u v h) apart = λ x. v (sym h ∙ sym x ∙ f)
moved_apart a b j k m n (Moves.back e f) (Moves.there g h) apart =
    λ x. apart (e ∙ sym h ∙ sym x ∙ f ∙ sym g)
moved_apart a b j k m n (Moves.back e f) (Moves.back g h) apart = λ x. apart (e ∙ sym g)
moved_apart a b j k m n (Moves.back e f) (Moves.stays u v h) apart = λ x. u (sym h ∙ sym x ∙ f)
moved_apart a b j k m n (Moves.stays u v f) (Moves.there g h) apart = λ x. v (sym f ∙ x ∙ h)
moved_apart a b j k m n (Moves.stays u v f) (Moves.back g h) apart = λ x. u (sym f ∙ x ∙ h)
moved_apart a b j k m n (Moves.stays u v f) (Moves.stays s t h) apart = λ x. apart (sym f ∙ x ∙ h)

two_moved : (xs ys : List ℕ) (a b : ℕ) → length ys ≡ length xs → a < length xs → b < length xs
    → Swapped (λ i. get_or xs i 0) (λ i. get_or ys i 0) a b → HasTwo xs → HasTwo ys
two_moved xs ys a b long p q s (j, k, apart, l, r, e) =
    let one = moved xs ys a b s j in
    let other = moved xs ys a b s k in
    let first = moved_within a b j one.0 (length xs) p q l one.2 in
    let second = moved_within a b k other.0 (length xs) p q r other.2 in (
      one.0,
      other.0,
      moved_apart a b j k one.0 other.0 one.2 other.2 apart,
      omega (arith, first, long),
      omega (arith, second, long),
      one.1 ∙ e ∙ sym other.1,
    )

two_swapped : (xs : List ℕ) (a b : ℕ) → a < length xs → b < length xs → HasTwo xs → HasTwo (swap xs a b)
two_swapped [] a b p q h = absurd (omega (arith, p))
two_swapped (x ∷ xs) a b p q h = two_moved (x ∷ xs) (swap (x ∷ xs) a b) a b (length-swap (x ∷ xs) a b) p q
    (swapped_from_swap (x ∷ xs) (swap (x ∷ xs) a b) a b 0 p q refl) h

pub twice_permuted : (xs ys : List ℕ) → IsPermutation xs ys → HasTwice xs → HasTwice ys
twice_permuted xs ys same h = twice_of ys (IsPermutation-keeps xs HasTwo (two_of xs h) two_swapped ys same)

-- the width of an int type
width_in : Option Form → ℕ
width_in (Some (form.Scalar (scalar.Int w))) = w
width_in _ = 0

same_width : (v w : ℕ) → Some (form.Scalar (scalar.Int v)) ≡ Some (form.Scalar (scalar.Int w)) → v ≡ w
unfolding width_in
same_width v w e = ap width_in e

-- a literal that is too wide is among those that were gathered
pub wide_found : (is : List PlainInst) (os : List Plain) (ns : List ℕ) (w : ℕ) → ns ≡ literals_of os
    → IsSelector is os w → HasWide is os → (n : ℕ) × Contains ns n × (2 ^ w ≤ n)
wide_found is os ns w e s h =
    let selector : h.selector ≡ s.selector = same_Some h.selector s.selector (sym h.typed ∙ s.typed) in
    let int : IsInt is s.selector h.width = subst (λ (t : ℕ). IsInt is t h.width) selector h.int in
    let width : h.width ≡ w = same_width h.width w (sym int ∙ s.int) in (
      h.literal,
      subst (λ (xs : List ℕ). Contains xs h.literal) (sym e) h.there,
      subst (λ (v : ℕ). 2 ^ v ≤ h.literal) width h.wide,
    )

-- what is left of a literal without its lower bits
zero_not : (n : ℕ) → n ≢ 0 → IsTrue (not (eqb n 0))
zero_not n h = ap not (ne_eqb n 0 h)

not_zero : (n : ℕ) → IsTrue (not (eqb n 0)) → n ≢ 0
not_zero n t e = false≢true (sym (ap not (eq-eqb n 0 e)) ∙ t)

pub wide_by : (a w : ℕ) → IsTrue (not (eqb (a / 2 ^ w) 0)) → 2 ^ w ≤ a
wide_by a w t = elim (cases_lt a (2 ^ w)) [
  | inl less ↦ absurd (not_zero (a / 2 ^ w) t (div-eq_of_lt less))
  | inr more ↦ more
]

pub by_wide : (a w : ℕ) → 2 ^ w ≤ a → IsTrue (not (eqb (a / 2 ^ w) 0))
by_wide a w h =
    let positive : 0 < 2 ^ w = one-le-pow w 2 (omega arith) in
    let near : a < a / 2 ^ w * 2 ^ w + 2 ^ w = lt-div-mul-add positive in
    zero_not (a / 2 ^ w) (λ e.
    let less : a < 0 * 2 ^ w + 2 ^ w = subst (λ (n : ℕ). a < n * 2 ^ w + 2 ^ w) e near in
    absurd (omega (arith, h, less)))

pub none_wide : (a w : ℕ) → a < 18446744073709551616 → 64 ≤ w → ¬ (2 ^ w ≤ a)
none_wide a w fits long h =
    let top : 2 ^ 64 ≤ 2 ^ w = pow-le-pow_right {n = 2} (omega arith) {i = 64} {j = w} long in
    let whole : 18446744073709551616 ≤ 2 ^ w = top in
    absurd (omega (arith, whole, fits, h))
