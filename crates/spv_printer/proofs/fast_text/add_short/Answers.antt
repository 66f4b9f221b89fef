use Rattle.std.proofs.Common.{◌≡◌, arith, length, refl}
use Rattle.spv_lines.specs.Operand.{escaped}
use Rattle.spv_printer.proofs.Pieces.{quoted_utf8}
use Rattle.spv_printer.proofs.Shorts.{short_put}
use Rattle.spv_printer.proofs.fast_text.add_short.Goals as goal

pub returns : goal.returns
returns c =
    let n = length c.args.text.now in
    let r = c.requires in
    let v = c.as_bytes-octets.ensures.value in
    let m = c.if-count-gt-LONGEST.false in
    let q : escaped c.args.text.now ≡ c.args.text.now = rw v at (c.are_plain.ensures c.if-not-are_plain.false) in
    record {
      low = omega arith;
      high = omega arith;
      text = rw c.copy_from_slice.ensures.after
          (short_put c.args.buffer.now c.as_bytes-octets.result.now c.args.text.now _ _ c.args.at r
          (omega arith) q v refl (omega arith));
      utf8 = quoted_utf8 c.args.text.now q c.utf8.text;
    }
