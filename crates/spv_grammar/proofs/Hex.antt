-- Eight hexadecimal digits fit 32 bits.
use Rattle.std.proofs.Common.{ℕ, ◌<◌, ◌≤◌, ◌^◌, arith, lit<}
use Rattle.std.proofs.Math.Nat.{pow-le-pow_right}

-- fewer than eight digits leave room for one more
pub room_for_digit : (n i : ℕ) → n < 16 ^ i → i < 8 → n < 268435456
room_for_digit n i below early =
    let p : 16 ^ i ≤ 16 ^ 7 = pow-le-pow_right (lit< tt) {j = 7} (omega arith) in
    omega arith
