use Rattle.std.proofs.Common.{◌∙◌, arith}
use Rattle.spv_module.specs.Operand.{start}
use Rattle.spv_inst.proofs.Couples.{id_pair_next, two_pushed}
use Rattle.spv_inst.proofs.pairs.read_id_pairs.Goals as goal

pub loop-at-preserved : goal.loop-at-preserved
loop-at-preserved c =
    let w = c.requires.within in
    let wa = w.0 in
    let n = c.args.begin in
    let os = c.loop-at.operands.items in
    let i = c.push_reserved.ensures.items in
    let j = c.push_reserved-in-loop-at.ensures.items in
    let r = c.loop-at.invariant.room in
    let f = c.loop-at.invariant.from in
    let u = c.loop-at.invariant.few in
    let t = c.loop-at-test.true in
    let p = two_pushed n os _ _ _ _ r i j in
    record {
      from = omega arith;
      upto = omega arith;
      room = p.room;
      kept = p.kept ∙ c.loop-at.invariant.kept;
      few = let l = p.length in omega arith;
      spare =
          let s = c.loop-at.invariant.spare in
          let n1 = c.push_reserved.ensures.len in
          let k1 = c.push_reserved.ensures.capacity in
          let n2 = c.push_reserved-in-loop-at.ensures.len in
          let k2 = c.push_reserved-in-loop-at.ensures.capacity in
          omega arith;
      sofar = λ G b pattern x y ds q h s.
          rw p.plain (id_pair_next G (start b c.args.place.opcode) _ _ _ ds x y c.args.image.now c.args.place.first
          c.loop-at.at c.args.place.end _ _ q h (c.loop-at.invariant.sofar G b pattern x y ds q h s)
          (omega arith) t c.requires.fits c.word.ensures c.word-in-loop-at.ensures);
    }
