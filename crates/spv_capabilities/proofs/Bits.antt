-- The set bits of a mask, one after another.
use Rattle.std.proofs.Common.{◌≡◌, ◌<◌, ◌+◌, ◌-◌, ◌*◌, ◌/◌, ◌%◌, ◌^◌, ℕ, zero, suc, List, ◌∷◌, Bool, true, false}
use Rattle.std.proofs.Common.{nat_eq, ◌↔◌, refl, sym, ap, ◌∙◌, add-one, arith}
use Rattle.std.specs.Prelude.{filter}
use Rattle.std.specs.List.{AllByRecursion}
use Rattle.std.proofs.Math.Nat.{pow-succ', div-div-eq-div-mul}
use Rattle.spv_table.specs.Table.{Table}
use Rattle.spv_module.specs.Operand.{PlainInst}
use Rattle.spv_module.specs.Spelling.{bits_from}
use Rattle.spv_capabilities.specs.Capable.{IsCoveredValue, IsCoveredMask}

-- is a bit of that value set in a mask
abbrev pub has_bit : ℕ → ℕ → Bool
has_bit mask b = nat_eq (mask / b % 2) 1

-- what holds of the set bits from a position up
unfoldable pub AllFrom : (ℕ → Type 0) → ℕ → ℕ → Type 0
AllFrom P mask position = AllByRecursion P (filter (has_bit mask) (bits_from (32 - position) (2 ^ position)))

pub all_bits : (G : Table) (is : List PlainInst) (k mask : ℕ)
    → IsCoveredMask G is k mask ↔ AllFrom (IsCoveredValue G is k) mask 0
unfolding AllFrom IsCoveredMask
all_bits G is k mask = (λ a. a, λ a. a)

pub no_bits : (P : ℕ → Type 0) (mask : ℕ) → AllFrom P mask 32
unfolding AllFrom
no_bits P mask = tt

bits_more : (n : ℕ) → n < 32 → bits_from (32 - n) (2 ^ n) ≡ 2 ^ n ∷ bits_from (32 - (n + 1)) (2 ^ (n + 1))
bits_more n l =
    let k : 32 - n ≡ suc (32 - (n + 1)) = omega arith in
    let s : n + 1 ≡ suc n = add-one n in
    let d : 2 * 2 ^ n ≡ 2 ^ (n + 1) = sym (ap (λ m. 2 ^ m) s ∙ pow-succ' 2 n) in
    ap (λ m. bits_from m (2 ^ n)) k ∙ ap (λ b. 2 ^ n ∷ bits_from (32 - (n + 1)) b) d

all_front : (P : ℕ → Type 0) (t : ℕ → Bool) (x : ℕ) (xs : List ℕ) → t x ≡ true
    → AllByRecursion P (filter t (x ∷ xs)) ↔ (P x × AllByRecursion P (filter t xs))
all_front P t x xs e = rw e (λ a. a, λ a. a)

all_rest : (P : ℕ → Type 0) (t : ℕ → Bool) (x : ℕ) (xs : List ℕ) → t x ≡ false
    → AllByRecursion P (filter t (x ∷ xs)) ↔ AllByRecursion P (filter t xs)
all_rest P t x xs e = rw e (λ a. a, λ a. a)

pub set_at : (P : ℕ → Type 0) (mask n : ℕ) → n < 32 → has_bit mask (2 ^ n) ≡ true
    → AllFrom P mask n ↔ (P (2 ^ n) × AllFrom P mask (n + 1))
unfolding AllFrom
set_at P mask n l e = rw (bits_more n l) (all_front P (has_bit mask) (2 ^ n) (bits_from (32 - (n + 1)) (2 ^ (n + 1))) e)

pub unset_at : (P : ℕ → Type 0) (mask n : ℕ) → n < 32 → has_bit mask (2 ^ n) ≡ false
    → AllFrom P mask n ↔ AllFrom P mask (n + 1)
unfolding AllFrom
unset_at P mask n l e =
    rw (bits_more n l) (all_rest P (has_bit mask) (2 ^ n) (bits_from (32 - (n + 1)) (2 ^ (n + 1))) e)

-- above the highest set bit none is set
half_none : (mask b : ℕ) → mask / b ≡ 0 → mask / (2 * b) ≡ 0
half_none mask b e =
    let c : 2 * b ≡ b * 2 = omega arith in
    ap (λ n. mask / n) c ∙ sym (div-div-eq-div-mul mask b 2) ∙ ap (λ n. n / 2) e

none_above : (P : ℕ → Type 0) (mask n b : ℕ) → mask / b ≡ 0 → AllByRecursion P (filter (has_bit mask) (bits_from n b))
none_above P mask zero b e = tt
none_above P mask (suc n) b e =
    let f : has_bit mask b ≡ false = rw e refl in
    (all_rest P (has_bit mask) b (bits_from n (2 * b)) f).1 (none_above P mask n (2 * b) (half_none mask b e))

pub no_more : (P : ℕ → Type 0) (mask n : ℕ) → mask / 2 ^ n ≡ 0 → AllFrom P mask n
unfolding AllFrom
no_more P mask n e = none_above P mask (32 - n) (2 ^ n) e

bit_by : (P : ℕ → Type 0) (mask n : ℕ) → n < 32 → (b : Bool) → has_bit mask (2 ^ n) ≡ b
    → (has_bit mask (2 ^ n) ≡ true → P (2 ^ n)) → AllFrom P mask n ↔ AllFrom P mask (n + 1)
bit_by P mask n l true e h = let s = set_at P mask n l e in (λ a. (s.0 a).1, λ a. s.1 (h e, a))
bit_by P mask n l false e h = unset_at P mask n l e

-- one bit more
pub bit_covered : (P : ℕ → Type 0) (mask n : ℕ) → n < 32 → (has_bit mask (2 ^ n) ≡ true → P (2 ^ n))
    → AllFrom P mask n ↔ AllFrom P mask (n + 1)
bit_covered P mask n l h = bit_by P mask n l (has_bit mask (2 ^ n)) refl h

pub bit_not_covered : (P : ℕ → Type 0) (mask n : ℕ) → n < 32 → ¬ (has_bit mask (2 ^ n) ≡ true → P (2 ^ n))
    → ¬ (AllFrom P mask n)
bit_not_covered P mask n l h a = h (λ e. ((set_at P mask n l e).0 a).0)

-- none is set in 0
pub no_mask : (G : Table) (is : List PlainInst) → IsCoveredMask G is 0 0
no_mask G is = (all_bits G is 0 0).1 (no_more (IsCoveredValue G is 0) 0 0 refl)
