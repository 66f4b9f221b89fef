-- The words from one place up to another.
use Rattle.std.proofs.Common.{◌≡◌, ◌<◌, ◌≤◌, ◌+◌, ◌-◌, ℕ, suc, List, [], ◌∷◌, length, take, drop, slice_index, refl}
use Rattle.std.proofs.Common.{arith, add-one}
use Rattle.std.proofs.Math.Seq.{drop-cons}
use Rattle.spv_inst.specs.inner.Reading.{between}

-- a word at the front
pub front : (ws : List ℕ) (at end : ℕ) → at < end → end ≤ length ws
    → between ws at end ≡ slice_index ws at ∷ between ws (at + 1) end
front ws at end h l =
    let n : end - at ≡ suc (end - (at + 1)) = omega arith in
    let m : end - suc at ≡ end - (at + 1) = omega arith in
    let d : drop at ws ≡ slice_index ws at ∷ drop (suc at) ws = drop-cons ws at 0 (omega arith) in
    rw (n, d, add-one) refl

-- no word
pub nothing : (ws : List ℕ) (at end : ℕ) → end ≤ at → between ws at end ≡ []
nothing ws at end h =
    let n : end - at ≡ 0 = omega arith in
    rw n refl

-- one word, and no other
pub lone : (ws : List ℕ) (at end : ℕ) → at < end → end - at < 2 → end ≤ length ws
    → between ws at end ≡ slice_index ws at ∷ []
lone ws at end h s l = rw (front ws at end h l, nothing ws (at + 1) end (omega arith)) refl

-- two words
pub two : (ws : List ℕ) (at end : ℕ) → 2 ≤ end - at → end ≤ length ws
    → between ws at end ≡ slice_index ws at ∷ slice_index ws (at + 1) ∷ between ws (at + 1 + 1) end
two ws at end s l = rw (front ws at end (omega arith) l, front ws (at + 1) end (omega arith) l) refl

pub take_one : (ws : List ℕ) (at end x : ℕ) → at < end → end ≤ length ws → x ≡ slice_index ws at
    → take 1 (between ws at end) ≡ x ∷ []
take_one ws at end x h l e = rw (front ws at end h l, e) refl

pub take_two : (ws : List ℕ) (at end x y : ℕ) → 2 ≤ end - at → end ≤ length ws → x ≡ slice_index ws at
    → y ≡ slice_index ws (at + 1) → take 2 (between ws at end) ≡ x ∷ y ∷ []
take_two ws at end x y s l e f = rw (two ws at end s l, e, f) refl
