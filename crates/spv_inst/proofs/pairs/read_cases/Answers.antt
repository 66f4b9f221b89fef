use Rattle.std.proofs.Common.{◌≡◌, ◌∙◌, Some, drop, refl, ap, arith}
use Rattle.spv_module.specs.Module.{plain_operand, plain_operands}
use Rattle.spv_module.specs.Operand.{start, after}
use Rattle.spv_module.specs.Shape.{AsNumber, shape_of}
use Rattle.spv_inst.proofs.Couples.{pair_next, two_pushed, width_kept}
use Rattle.spv_inst.proofs.Turns.{here_is}
use Rattle.spv_inst.proofs.pairs.read_cases.Goals as goal

pub loop-at-preserved : goal.loop-at-preserved
loop-at-preserved c =
    let w = c.requires.within in
    let wa = w.0 in
    let n = c.args.begin in
    let os = c.loop-at.operands.items in
    let o = c.in-Ok.number.operand in
    let i = c.push_reserved.ensures.items in
    let j = c.push_reserved-in-loop-at.ensures.items in
    let r = c.loop-at.invariant.room in
    let f = c.loop-at.invariant.from in
    let u = c.loop-at.invariant.few in
    let t = c.loop-at-test.true in
    let na = c.in-Ok.ensures.within.0 in
    let nb = c.in-Ok.ensures.within.1 in
    let z = c.if-label-place.false in
    let p = two_pushed n os _ _ _ _ r i j in
    let out = plain_operands (drop n os) in
    let d = c.args.place.opcode in
    record {
      from = omega arith;
      upto = omega arith;
      room = p.room;
      kept = p.kept ∙ c.loop-at.invariant.kept;
      few = let l = p.length in omega arith;
      width = λ b e. rw p.plain (width_kept b d _ _ c.args.bits
          (width_kept b d out _ c.args.bits (c.loop-at.invariant.width b e)));
      spare =
          let s = c.loop-at.invariant.spare in
          let n1 = c.push_reserved.ensures.len in
          let k1 = c.push_reserved.ensures.capacity in
          let n2 = c.push_reserved-in-loop-at.ensures.len in
          let k2 = c.push_reserved-in-loop-at.ensures.capacity in
          omega arith;
      sofar = λ G b pattern x y ds q h e s.
          let m = c.loop-at.invariant.width b e in
          let g : shape_of G (after (start b d) out) x ≡ AsNumber (Some c.args.bits) = rw (here_is b d out)
          (h (record { before = b; opcode = d; operands = out }) refl ∙ ap AsNumber m) in
          rw p.plain (pair_next G (start b d) _ _ out ds x y c.args.image.now c.args.place.first c.loop-at.at
          c.args.place.end c.in-Ok.number.words (plain_operand o) _ q
          (c.loop-at.invariant.sofar G b pattern x y ds q h e s) (omega arith) (omega arith) c.requires.fits
          (rw g (c.in-Ok.ensures.taken x.kind)) c.word.ensures);
    }
