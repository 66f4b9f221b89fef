-- Which bit or operand is not covered.
use Rattle.std.proofs.Common.{◌≡◌, ◌<◌, ◌+◌, ◌*◌, ◌^◌, ◌∙◌, ℕ, zero, suc, List, [], ◌∷◌, Contains, Some, Bool, true}
use Rattle.std.proofs.Common.{false, length, refl, sym, ap, subst, inl, inr, arith}
use Rattle.std.specs.Prelude.{filter, slice_get, if◌then◌else◌}
use Rattle.std.specs.List.{AllByRecursion}
use Rattle.std.proofs.Math.Nat.{pow-succ'}
use Rattle.std.proofs.lemmas.Option.{slice_get_within}
use Rattle.spv_table.specs.Table.{Table}
use Rattle.spv_table.proofs.Search.{in_cons}
use Rattle.spv_module.specs.Operand.{Plain, PlainInst}
use Rattle.spv_module.specs.Spelling.{bits_from, set_bits}
use Rattle.spv_module.specs.declared.opcode.TheConstants as opcode
use Rattle.spv_capabilities.specs.Capable.{Has, IsCoveredOperand, IsCapable, is_read_write, needs_of}
use Rattle.spv_capabilities.specs.Asked.{IsCoveredEntry, HasNeeded}
use Rattle.spv_capabilities.proofs.Bits.{has_bit}
use Rattle.spv_capabilities.proofs.Marked.{below_or}
use Rattle.spv_form_evidence.specs.capabilities.inner.Bits.{IsUncoveredAt, IsUncoveredBit}
use Rattle.spv_form_evidence.specs.capabilities.inner.Operands.{AreCoveredBefore}
use Rattle.spv_form_evidence.proofs.lemmas.capabilities.Suffices.{needs_sampler, needs_image}

-- ---- what a filter keeps

in_front : (t : ℕ → Bool) (x : ℕ) (xs : List ℕ) → t x ≡ true → Contains (filter t (x ∷ xs)) x
in_front t x xs e = rw e (0, omega arith, refl)

in_later : (y x : ℕ) (ys : List ℕ) → Contains ys x → Contains (y ∷ ys) x
in_later y x ys h = (suc h.0, omega (arith, h.1), h.2)

in_rest : (t : ℕ → Bool) (y x : ℕ) (ys : List ℕ) (b : Bool) → t y ≡ b → Contains (filter t ys) x
    → Contains (filter t (y ∷ ys)) x
in_rest t y x ys true e h = rw e (in_later y x (filter t ys) h)
in_rest t y x ys false e h = rw e h

contains_filter : (t : ℕ → Bool) (xs : List ℕ) (x : ℕ) → Contains xs x → t x ≡ true → Contains (filter t xs) x
contains_filter t [] x h e = absurd (omega (arith, h.1))
contains_filter t (y ∷ ys) x h e = elim (in_cons y ys x h) [
  | inl s ↦ let f : t y ≡ true = ap t s ∙ e in subst (λ (z : ℕ). Contains (filter t (y ∷ ys)) z) s (in_front t y ys f)
  | inr later ↦ in_rest t y x ys (t y) refl (contains_filter t ys x later e)
]

-- ---- the bit at a position

bit_in : (n p b : ℕ) → p < n → Contains (bits_from n b) (2 ^ p * b)
bit_in zero p b l = absurd (omega arith)
bit_in (suc n) zero b l =
    let e : b ≡ 1 * b = omega arith in
    subst (λ (x : ℕ). Contains (bits_from (suc n) b) x) e (0, omega arith, refl)
bit_in (suc n) (suc p) b l =
    let w : p < n = omega arith in
    let s : 2 ^ suc p ≡ 2 * 2 ^ p = pow-succ' 2 p in
    let e : 2 ^ p * (2 * b) ≡ 2 ^ suc p * b = rw s (omega arith) in
    let later = subst (λ (x : ℕ). Contains (bits_from n (2 * b)) x) e (bit_in n p (2 * b) w) in
    in_later b (2 ^ suc p * b) (bits_from n (2 * b)) later

set_contains : (mask b : ℕ) → Contains (bits_from 32 1) b → has_bit mask b ≡ true → Contains (set_bits mask) b
set_contains mask b h e = contains_filter (has_bit mask) (bits_from 32 1) b h e

set_at : (mask p : ℕ) → p < 32 → has_bit mask (2 ^ p) ≡ true → Contains (set_bits mask) (2 ^ p)
set_at mask p l e =
    let s : 2 ^ p * 1 ≡ 2 ^ p = omega arith in
    set_contains mask (2 ^ p) (subst (λ (x : ℕ). Contains (bits_from 32 1) x) s (bit_in 32 p 1 l)) e

pub bit_found : (G : Table) (is : List PlainInst) (k mask p b : ℕ) → p < 32 → IsUncoveredAt G is k mask p b
    → IsUncoveredBit G is k mask b
bit_found G is k mask p b l u = record {
  set = subst (λ (x : ℕ). Contains (set_bits mask) x) (sym u.bit) (set_at mask p l u.set);
  uncovered = u.uncovered;
}

-- ---- the first operands

pub one_more : (G : Table) (is : List PlainInst) (os : List Plain) (n : ℕ) (o : Plain) → AreCoveredBefore G is os n
    → slice_get os n ≡ Some o → IsCoveredOperand G is o → AreCoveredBefore G is os (n + 1)
one_more G is os n o a t h = record {
  each = λ k p l e. elim (below_or k n l) [
    | inl b ↦ a.each k p b e
    | inr q ↦
        let f : slice_get os n ≡ Some p = subst (λ (x : ℕ). slice_get os x ≡ Some p) q e in
        let s : Some o ≡ Some p = sym t ∙ f in
        let r : o ≡ p = cc in
        subst (IsCoveredOperand G is) r h
  ];
}

all_from_each : {A : Type 0} (P : A → Type 0) (xs : List A) → ((k : ℕ) (x : A) → slice_get xs k ≡ Some x → P x)
    → AllByRecursion P xs
all_from_each P [] h = tt
all_from_each P (x ∷ xs) h = (h 0 x refl, all_from_each P xs (λ k y e. h (suc k) y e))

pub all_before : (G : Table) (is : List PlainInst) (os : List Plain) (n : ℕ) → n ≡ length os
    → AreCoveredBefore G is os n → AllByRecursion (IsCoveredOperand G is) os
all_before G is os n e a = all_from_each (IsCoveredOperand G is) os (λ k o t.
    let l : k < length os = slice_get_within os k o t in
    a.each k o (omega arith) t)

-- ---- what is left of C2

pub not_needed : (G : Table) (is : List PlainInst) (i : PlainInst) → ¬ (IsCapable G is i) → IsCoveredEntry G is i.opcode
    → AllByRecursion (IsCoveredOperand G is) i.operands → ¬ (HasNeeded G is (needs_of i))
not_needed G is i h e a w = h (record { entry = e; operands = a; needs = w })

-- what image and sampler types need and the module has not

pub no_sampler : (G : Table) (is : List PlainInst) (i : PlainInst) → i.opcode ≡ opcode.TYPE_SAMPLER
    → ¬ (HasNeeded G is (needs_of i)) → ¬ (Has G is 13)
no_sampler G is i o n h =
    n (subst (λ ns. HasNeeded G is ns) (sym (needs_sampler i o)) (inl h, tt))

either_access : (G : Table) (is : List PlainInst) (b : Bool) → Has G is 13
    → ¬ (HasNeeded G is ((13 ∷ []) ∷ (if b then (14 ∷ []) ∷ [] else []))) → (b ≡ true) × (¬ (Has G is 14))
either_access G is true p n = (refl, λ h. n (inl p, (inl h, tt)))
either_access G is false p n = absurd (n (inl p, tt))

pub no_access : (G : Table) (is : List PlainInst) (i : PlainInst) → i.opcode ≡ opcode.TYPE_IMAGE → Has G is 13
    → ¬ (HasNeeded G is (needs_of i)) → (is_read_write (slice_get i.operands 8) ≡ true) × (¬ (Has G is 14))
no_access G is i o p n =
    either_access G is (is_read_write (slice_get i.operands 8)) p
    (λ h. n (subst (λ ns. HasNeeded G is ns) (sym (needs_image i o)) h))
