-- A mask is the sum of its bits.
use Rattle.std.proofs.Common.{◌≡◌, ◌∙◌, ◌<◌, ◌+◌, ◌*◌, ◌/◌, ◌%◌, ◌^◌, ℕ, zero, suc, List, [], ◌∷◌, Bool, true, false}
use Rattle.std.proofs.Common.{nat_eq, refl, sym, ap, arith}
use Rattle.std.specs.List.{filter}
use Rattle.std.proofs.Math.Nat.{pow-succ', div-div-eq-div-mul}
use Rattle.std.proofs.lemmas.Bool.Decides.{nat_tests}
use Rattle.spv_module.specs.Spelling.{bits_from}
use Rattle.spv_lines.specs.Name.{mask_values}

abbrev pub total : List ℕ → ℕ
total [] = 0
total (x ∷ xs) = x + total xs

is_set_by : (m : ℕ) → nat_eq (m % 2) 1 ≡ true → m % 2 ≡ 1
is_set_by m h = grind (arith, nat_tests)

is_clear_by : (m : ℕ) → nat_eq (m % 2) 1 ≡ false → m % 2 ≡ 0
is_clear_by m h = grind (arith, nat_tests)

doubled : (b q y r : ℕ) → y ≡ 2 * q + r → b * y ≡ (2 * b) * q + b * r
doubled b q y r e = let f : b * y ≡ b * (2 * q + r) = ap (λ z. b * z) e in omega (arith, f)

smaller : (y n : ℕ) → y < 2 ^ suc n → y / 2 < 2 ^ n
smaller y n h = let e = pow-succ' 2 n in omega (arith, e)

pub sum_bits : (n b x : ℕ) → x / b < 2 ^ n → total (filter (λ b. nat_eq (x / b % 2) 1) (bits_from n b)) ≡ b * (x / b)
sum_bits zero b x h = let z : x / b ≡ 0 = omega arith in rw z (omega arith)
sum_bits (suc n) b x h =
    let i : x / b / 2 ≡ x / (b * 2) = div-div-eq-div-mul x b 2 in
    let k : b * 2 ≡ 2 * b = omega arith in
    let j : x / b / 2 ≡ x / (2 * b) = rw k at i in
    let l : x / (2 * b) < 2 ^ n = rw j at (smaller (x / b) n h) in
    let ih = sum_bits n (2 * b) x l in
    step (nat_eq (x / b % 2) 1) refl j ih
  where
    step : (t : Bool) → nat_eq (x / b % 2) 1 ≡ t → x / b / 2 ≡ x / (2 * b)
        → total (filter (λ b. nat_eq (x / b % 2) 1) (bits_from n (2 * b))) ≡ (2 * b) * (x / (2 * b))
        → total (filter (λ b. nat_eq (x / b % 2) 1) (b ∷ bits_from n (2 * b))) ≡ b * (x / b)
    step true e j ih =
        let m = is_set_by (x / b) e in
        let y : x / b ≡ 2 * (x / b / 2) + 1 = omega arith in
        let w : x / b ≡ 2 * (x / (2 * b)) + 1 = rw j at y in
        let d = doubled b (x / (2 * b)) (x / b) 1 w in
        rw e (omega (arith, ih, d))
    step false e j ih =
        let m = is_clear_by (x / b) e in
        let y : x / b ≡ 2 * (x / b / 2) + 0 = omega arith in
        let w : x / b ≡ 2 * (x / (2 * b)) + 0 = rw j at y in
        let d = doubled b (x / (2 * b)) (x / b) 0 w in
        rw e (omega (arith, ih, d))

is_zero : (x : ℕ) → nat_eq x 0 ≡ true → 0 ≡ x
is_zero x h = grind (arith, nat_tests)

pub mask_sum : (x : ℕ) → x < 4294967296 → total (mask_values x) ≡ x
mask_sum x h = split (nat_eq x 0) refl
  where
    split : (t : Bool) → nat_eq x 0 ≡ t → total (mask_values x) ≡ x
    split true e = rw e (is_zero x e)
    split false e =
        let l : x / 1 < 2 ^ 32 = omega arith in
        let s = sum_bits 32 1 x l in
        let d : 1 * (x / 1) ≡ x = omega arith in
        rw e (s ∙ d)

-- the bits tell the mask
pub mask_same : (x y : ℕ) → x < 4294967296 → y < 4294967296 → mask_values x ≡ mask_values y → x ≡ y
mask_same x y h g e = sym (mask_sum x h) ∙ (ap total e ∙ mask_sum y g)
