use Rattle.std.proofs.Common.{◌≢◌, ◌<◌, ◌^◌, arith, length, get_or}
use Rattle.spv_lines.proofs.Fronts.{front_before, front_whole}
use Rattle.spv_lines.proofs.front.cell_at.Goals as goal
use Rattle.spv_lines.proofs.front.cell_at.Goals.{else-at-gt1-via-then-at-gt1+else-octets-eq48}
use Rattle.spv_lines.proofs.front.cell_at.Goals.{else-at-gt1-via-else-at-gt1}

pub returns-then-at-octets : goal.returns-then-at-octets
returns-then-at-octets c =
    let v = c.as_bytes-octets.ensures.value in
    let e = rw v at c.if-at-octets.true in
    let n : c.args.number < 2 ^ 32 = omega arith in
    let z : 1 < c.args.at → get_or c.args.text.now 0 0 ≢ 48 = elim c.else-at-gt1.branch [
      | else-at-gt1-via-then-at-gt1+else-octets-eq48 w ↦ λ _. rw v at w.if-octets-eq48.false
      | else-at-gt1-via-else-at-gt1 w ↦ λ m. absurd (omega (arith, w.if-at-gt1.false))
    ] in
    front_whole c.args.text.now c.args.at c.args.number (omega arith) e z c.requires.digits c.requires.value n

pub returns : goal.returns
returns c =
    let v = c.as_bytes-octets.ensures.value in
    let e = rw v at c.if-at-octets.false in
    let n : c.args.number < 2 ^ 32 = omega arith in
    let l : c.args.at < length c.args.text.now = let w = c.requires.within in omega (arith, e, w) in
    let z : 1 < c.args.at → get_or c.args.text.now 0 0 ≢ 48 = elim c.else-at-gt1.branch [
      | else-at-gt1-via-then-at-gt1+else-octets-eq48 w ↦ λ _. rw v at w.if-octets-eq48.false
      | else-at-gt1-via-else-at-gt1 w ↦ λ m. absurd (omega (arith, w.if-at-gt1.false))
    ] in
    rw c.split_before.ensures.back (front_before c.args.text.now c.args.at c.args.number
    (omega arith) l z c.requires.digits c.requires.value n (c.requires.ended l))
