use Rattle.std.proofs.Common.{◌≤◌, ◌+◌, arith, refl, length}
use Rattle.spv_lines.proofs.Reader.{digits_more, value_more}
use Rattle.spv_lines.proofs.front.read_front.Goals as goal

pub loop-at-preserved : goal.loop-at-preserved
loop-at-preserved c =
    let xs = c.as_bytes-octets.result.now in
    let i = c.loop-at.at in
    let v = c.loop-at.invariant.value in
    let m = value_more xs i c.loop-at-test.true in
    let f = c.from.ensures in
    let h : i + 1 ≤ length xs = let t = c.loop-at-test.true in omega (arith, t) in
    record {
      within = h;
      digits = digits_more xs i c.loop-at-test.true c.if-octet-lt48.false c.if-octet-gt57.false
          c.loop-at.invariant.digits;
      value = rw (m, v, f) refl;
    }
