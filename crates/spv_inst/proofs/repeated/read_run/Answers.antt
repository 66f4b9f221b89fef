use Rattle.std.proofs.Common.{◌≡◌, ◌++◌, ◌∷◌, [], ◌∙◌, drop, refl, ap, arith, length-append}
use Rattle.std.proofs.lemmas.List.{take-append-le, drop-append-le}
use Rattle.spv_module.specs.Module.{plain_operands}
use Rattle.spv_module.specs.Operand.{start}
use Rattle.spv_inst.proofs.Turns.{word_next, plain-push}
use Rattle.spv_inst.proofs.repeated.read_run.Goals as goal

pub loop-at-preserved : goal.loop-at-preserved
loop-at-preserved c =
    let n = c.args.begin in
    let os = c.loop-at.operands.items in
    let o = c.in-Some-bare_in_form.operand in
    let i = c.push_reserved.ensures.items in
    let r = c.loop-at.invariant.room in
    let f = c.loop-at.invariant.from in
    let w = c.loop-at.invariant.few in
    let t = c.loop-at-test.true in
    let q = c.requires.within.0 in
    let l = length-append os (o ∷ []) in
    let pl : plain_operands (drop n (os ++ (o ∷ []))) ≡ plain_operands (drop n os ++ (o ∷ [])) = ap plain_operands
    (drop-append-le n os (o ∷ []) r) in
    record {
      from = omega arith;
      upto = omega arith;
      room = rw i (omega arith);
      kept = rw (i, take-append-le n os (o ∷ []) r) c.loop-at.invariant.kept;
      few = rw i (omega arith);
      spare = let s = c.loop-at.invariant.spare in let n = c.push_reserved.ensures.len in
          let k = c.push_reserved.ensures.capacity in omega arith;
      sofar = λ b pattern know s.
          let G = c.args.scene.now.table.now in
          word_next G (start b c.args.place.opcode) _ _ _ _ _ _ _ c.in-Some.kind [] c.args.scene.now.image.now
          c.args.place.first c.loop-at.at c.args.place.end _ _ (c.loop-at.invariant.sofar b pattern know s)
          (omega arith) t c.requires.fits c.in-Some.ensures c.word.ensures
          (c.in-Some-bare_in_form.ensures G _ _ (c.form_in-form.ensures G c.requires.forms))
          (rw i (pl ∙ plain-push (drop n os) _ o refl)) refl;
    }
