use Rattle.std.proofs.Common.{◌≡◌, ◌<◌, ◌+◌, ◌∙◌, length, length-set, set, take, refl, arith}
use Rattle.spv_inst.proofs.TextOctets.{each_all, length-words}
use Rattle.spv_inst.proofs.TextPlaces.{takes}
use Rattle.spv_printer.proofs.Pieces.{quoted_utf8}
use Rattle.spv_printer.proofs.Shorts.{ascii_utf8, quotes_put}
use Rattle.spv_printer.proofs.fast_text.add_quoted.Goals as goal

pub returns : goal.returns
returns c =
    let below = each_all (λ b. b < 256) c.args.octets.now (λ i _. (c.type_inv.octets i).fits) in
    let e = c.in_ok-count.ensures in
    let n = c.in_ok-count.count in
    let f = e.few in
    let w = e.within in
    let r = c.requires.room in
    let text = take n c.args.octets.now in
    let a = length-set c.args.buffer.now c.args.at 32 in
    let b = length-set (set c.args.buffer.now c.args.at 32) (c.args.at + 1) 34 in
    let l : length c.copy_plain.new.buffer ≡ length c.args.buffer.now = c.copy_plain.auto.buffer ∙ (b ∙ a) in
    let u = ascii_utf8 text e.ascii in
    let q = length-words c.args.octets.now in
    let h = c.requires.whole in
    record {
      octets = text;
      takes = λ k. takes k c.args.octets.now n c.requires.whole below
          (record { within = w; at = e.zero; before = e.some }) (c.if-not-are_zeros.ensures.0 refl) u;
      some = omega arith;
      within = rw q (omega arith);
      piece = record {
        low = omega arith;
        high = omega arith;
        text = quotes_put c.args.buffer.now c.copy_plain.new.buffer text c.args.at n r (omega arith) e.plain e.text;
        utf8 = quoted_utf8 text e.plain u;
      };
    }
