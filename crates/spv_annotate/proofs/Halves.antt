-- Half floats as single ones.
use Rattle.std.proofs.Common.{◌≡◌, ◌≢◌, ◌<◌, ◌≤◌, ◌+◌, ◌-◌, ◌*◌, ◌/◌, ◌%◌, ℕ, zero, suc, Bool, true, false, nat_eq}
use Rattle.std.proofs.Common.{refl, arith}
use Rattle.std.specs.Prelude.{if◌then◌else◌, nat_le}
use Rattle.std.proofs.lemmas.Bool.Decides.{nat_tests}
use Rattle.spv_annotate.specs.Values.{raised, widened, widened_size}

pub raised_step : (left e m : ℕ) → 0 < left → m < 1024 → raised (left - 1) (e - 1) (m * 2) ≡ raised left e m
unfolding raised
raised_step zero e m s l = absurd (omega arith)
raised_step (suc left) e m s l =
    let f : nat_le 1024 m ≡ false = grind (arith, nat_tests) in
    let g : m * 2 ≡ 2 * m = omega arith in
    let h : suc left - 1 ≡ left = omega arith in
    rw (f, g, h) refl

pub raised_end : (left e m : ℕ) → ((left ≡ 0) → ⊥) → 1024 ≤ m → raised left e m ≡ e * 8388608 + m % 1024 * 8192
unfolding raised
raised_end zero e m s l = refl
raised_end (suc left) e m s l = let f : nat_le 1024 m ≡ true = grind (arith, nat_tests) in rw f refl

pub raised_none : (left e m : ℕ) → left ≡ 0 → raised left e m ≡ e * 8388608 + m % 1024 * 8192
unfolding raised
raised_none left e m s = rw s refl

-- A half float that is a number is one as a single float too.

raised_small : (left e m : ℕ) → raised left e m ≤ e * 8388608 + 8380416
unfolding raised
raised_small zero e m = omega arith
raised_small (suc left) e m = by (nat_le 1024 m) refl (raised_small left (e - 1) (2 * m))
  where
    by : (b : Bool) → nat_le 1024 m ≡ b → raised left (e - 1) (2 * m) ≤ (e - 1) * 8388608 + 8380416
        → raised (suc left) e m ≤ e * 8388608 + 8380416
    by true f h = rw f (omega arith)
    by false f h = rw f (omega (arith, h))

size_small : (h : ℕ) → h ≤ 31744 → widened_size h ≤ 2139095040
size_small h l = one (nat_eq h 0) (nat_eq (h / 1024) 0) (nat_eq (h / 1024) 31) refl refl refl
  where
    one : (a b d : Bool) → nat_eq h 0 ≡ a → nat_eq (h / 1024) 0 ≡ b → nat_eq (h / 1024) 31 ≡ d
        → widened_size h ≤ 2139095040
    one true b d e f g = rw e (omega arith)
    one false true d e f g = rw (e, f) (let r = raised_small 10 113 h in omega (arith, r))
    one false false true e f g = rw (e, f, g) (let s : h / 1024 ≡ 31 = grind (arith, nat_tests) in omega (arith, s, l))
    one false false false e f g = rw (e, f, g) (let s : h / 1024 ≢ 31 = grind (arith, nat_tests) in omega (arith, s, l))

pub half_number : (n : ℕ) → n % 32768 ≤ 31744 → widened n % 2147483648 ≤ 2139095040
half_number n l = let s = size_small (n % 32768) l in omega (arith, s)
