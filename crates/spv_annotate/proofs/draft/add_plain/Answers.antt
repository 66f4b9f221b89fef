use Rattle.std.proofs.Common.{◌∙◌, refl, arith, length-set}
use Rattle.spv_annotate.proofs.Drafts.{copied_more, copied_none}
use Rattle.spv_annotate.proofs.draft.add_plain.Goals as goal

pub loop-count-init : goal.loop-count-init
loop-count-init c = record { size = refl; copied = copied_none c.args.octets.now c.args.at c.args.buffer.now }

pub loop-count-preserved : goal.loop-count-preserved
loop-count-preserved c =
    let i = c.loop-count.invariant in
    let s = i.size in
    let r = c.requires in
    let t = c.loop-count-test.true in
    let p = c.is_plain.ensures c.if-not-is_plain.false in
    record {
      size = length-set _ _ _ ∙ s;
      copied = copied_more c.args.buffer.now c.loop-count.buffer c.args.octets.now c.args.at c.loop-count.count
          (omega (arith, r, s, t)) t p i.copied;
    }
