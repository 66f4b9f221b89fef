-- Numbers at the front of the words left.
use Rattle.std.proofs.Common.{◌≡◌, ◌<◌, ◌≤◌, ◌+◌, ◌-◌, ℕ, List, [], Option, Some, None, length, take, slice_index}
use Rattle.spv_module.specs.Operand.{Number}
use Rattle.spv_module.specs.Shape.{AsNumber}
use Rattle.spv_module.specs.Spelling.{Takes}
use Rattle.spv_module.specs.declared.fault.Rule.TheVariants.{I4, I11}
use Rattle.spv_module.specs.Refusal.{ShapeRefuses}
use Rattle.spv_inst.specs.inner.Reading.{between}
use Rattle.spv_inst.proofs.Between.{front, lone, take_one, take_two}

pub narrow_taken : (k : ℕ) (width : Option ℕ) (w : ℕ) (ws : List ℕ) (at end x : ℕ) → width ≡ Some w → w ≤ 32 → at < end
    → end ≤ length ws → x ≡ slice_index ws at
    → Takes k (AsNumber width) (Number x 0 1) (take 1 (between ws at end)) []
narrow_taken k width w ws at end x e n h l i = rw (e, take_one ws at end x h l i) (Takes.narrow w x n)

pub wide_taken : (k : ℕ) (width : Option ℕ) (w : ℕ) (ws : List ℕ) (at end x y : ℕ) → width ≡ Some w → 32 < w
    → 2 ≤ end - at → end ≤ length ws → x ≡ slice_index ws at → y ≡ slice_index ws (at + 1)
    → Takes k (AsNumber width) (Number x y 2) (take 2 (between ws at end)) []
wide_taken k width w ws at end x y e n s l i j = rw (e, take_two ws at end x y s l i j) (Takes.wide w x y n)

pub half_refused : (width : Option ℕ) (w : ℕ) (ws : List ℕ) (at end : ℕ) → width ≡ Some w → 32 < w → at < end
    → end - at < 2 → end ≤ length ws
    → ShapeRefuses (AsNumber width) (between ws at end) I4 1
half_refused width w ws at end e n h s l = rw (e, lone ws at end h s l) (ShapeRefuses.half w (slice_index ws at) n)

pub unknown_refused : (width : Option ℕ) (ws : List ℕ) (at end : ℕ) → width ≡ None → at < end → end ≤ length ws
    → ShapeRefuses (AsNumber width) (between ws at end) I11 0
unknown_refused width ws at end e h l =
    rw (e, front ws at end h l) (ShapeRefuses.no_width (slice_index ws at) (between ws (at + 1) end))
