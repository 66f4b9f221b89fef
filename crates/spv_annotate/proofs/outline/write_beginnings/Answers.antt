use Rattle.std.proofs.Common.{◌≡◌, ap, flat_map, get_or, map}
use Rattle.std.specs.List.{range_with_len}
use Rattle.spv_module.specs.Module.{plain_inst}
use Rattle.spv_annotate.specs.Module.{inst_at}
use Rattle.spv_annotate.specs.Page.{outlined}
use Rattle.spv_annotate.proofs.Outlines.{plain_at}
use Rattle.spv_annotate.proofs.Small.{flat_range_more}
use Rattle.spv_annotate.proofs.Writings.{written_more}
use Rattle.spv_annotate.proofs.outline.write_beginnings.Goals as goal

pub loop-at-preserved : goal.loop-at-preserved
loop-at-preserved g c =
    let is = map plain_inst c.args.insts.now in
    let n = c.loop-at.at in
    let f = outlined is c.args.asked in
    let i = c.index-insts-at.result in
    let o : (inst_at is n).opcode ≡ (get_or c.args.insts.now n i).opcode = ap (λ i. i.opcode)
    (plain_at c.args.insts.now n i c.loop-at-test.true) in
    record {
      written = rw (flat_range_more f n) (written_more g.P.Pen.text g.P.Pen.writes (flat_map f (range_with_len 0 n))
          (f n) c.args.pen.now c.loop-at.pen c.write_outlined.new.pen
          c.loop-at.invariant.written c.in_ok-write_outlined.ensures);
      section = c.behind-before.ensures.section is o;
      function = c.behind-before.ensures.function is o c.loop-at.invariant.function;
    }
