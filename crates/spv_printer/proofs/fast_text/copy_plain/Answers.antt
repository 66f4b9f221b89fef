use Rattle.std.proofs.Common.{◌≡◌, ◌≢◌, ◌<◌, ◌+◌, ◌∙◌, refl, sym, arith, length, take, append-nil, length-set}
use Rattle.std.proofs.lemmas.List.{take_more}
use Rattle.spv_printer.proofs.Drafts.{plain_next}
use Rattle.spv_printer.proofs.Shorts.{all_snoc, copied_next}
use Rattle.spv_printer.proofs.fast_text.copy_plain.Goals as goal

pub loop-count-init : goal.loop-count-init
loop-count-init c =
    let z : c.args.at + 0 ≡ c.args.at = omega arith in
    record {
      upto = omega arith;
      few = omega arith;
      size = refl;
      some = tt;
      ascii = tt;
      plain = refl;
      text = rw z (sym (append-nil (take c.args.at c.args.buffer.now)));
    }

pub loop-count-preserved : goal.loop-count-preserved
loop-count-preserved c =
    let i = c.loop-count.invariant in
    let s = i.size in
    let r = c.requires in
    let w = c.looked_at-end.ensures.within in
    let f = c.looked_at-end.ensures.few in
    let l = c.loop-count-test.true in
    let t : c.loop-count.count < length c.args.octets.now = omega (arith, w, l) in
    let m = take_more c.args.octets.now c.loop-count.count 0 t in
    let p = c.if-not-is_plain.ensures refl in
    record {
      upto = omega arith;
      few = omega arith;
      size = length-set _ _ _ ∙ s;
      some = rw m (all_snoc (λ b. b ≢ 0) _ _ i.some p.some);
      ascii = rw m (all_snoc (λ b. b < 128) _ _ i.ascii p.ascii);
      plain = plain_next c.args.octets.now c.loop-count.count t i.plain p.quote p.mark p.feed;
      text = copied_next c.args.buffer.now c.loop-count.buffer c.args.octets.now c.args.at c.loop-count.count
          (omega arith) t i.text;
    }
