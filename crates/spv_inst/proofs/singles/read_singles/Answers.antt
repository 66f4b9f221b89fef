use Rattle.std.proofs.Common.{◌≡◌, ◌++◌, ◌∷◌, [], ◌∙◌, drop, refl, sym, ap, arith, length-append}
use Rattle.std.proofs.lemmas.List.{take-append-le, drop-append-le}
use Rattle.spv_module.specs.Module.{plain_operands}
use Rattle.spv_module.specs.Operand.{start}
use Rattle.spv_inst.proofs.Frames.{by_empty}
use Rattle.spv_inst.proofs.Turns.{words_next, plain-push, here_is}
use Rattle.spv_inst.proofs.singles.read_singles.Goals as goal

pub loop-left-preserved : goal.loop-left-preserved
loop-left-preserved c =
    let n = c.args.begin in
    let os = c.loop-left.operands.items in
    let p = c.in-Some-push_next.ensures.pushed in
    let o = p.operand in
    let i = p.added in
    let r = c.loop-left.invariant.room in
    let f = c.loop-left.invariant.from in
    let w = c.loop-left.invariant.few in
    let t = c.loop-left-test.true in
    let q = c.requires.within.0 in
    let wa = c.in-Some-push_next.ensures.within.0 in
    let wb = c.in-Some-push_next.ensures.within.1 in
    let none : c.loop-left.left.kinds.now ≡ [] = by_empty c.loop-left.left.kinds.now
    (sym c.if-is_empty.true ∙ c.is_empty.ensures) in
    let l = length-append os (o ∷ []) in
    let pl : plain_operands (drop n (os ++ (o ∷ []))) ≡ plain_operands (drop n os ++ (o ∷ [])) = ap plain_operands
    (drop-append-le n os (o ∷ []) r) in
    record {
      from = omega arith;
      upto = omega arith;
      room = rw i (omega arith);
      kept = rw (i, take-append-le n os (o ∷ []) r) c.loop-left.invariant.kept;
      few = rw i (omega arith);
      spare = let s = c.loop-left.invariant.spare in let n = c.in-Some-push_next.ensures.len in
          let k = c.push_next.ensures.capacity in omega arith;
      sofar = λ b pattern know s.
          let G = c.args.scene.now.table.now in
          let h = here_is b c.args.place.opcode (plain_operands (drop n os)) in
          let k = p.taken _ (rw h know) (rw h refl) in
          words_next G (start b c.args.place.opcode) _ _ _ _ _ _ _ c.in-Some.kind c.in-Some-push_next.pushed.kinds.now
          c.args.scene.now.image.now c.args.place.first c.loop-left.left.at c.args.place.end _ _
          (c.loop-left.invariant.sofar b pattern know s) (omega arith) t c.requires.fits wb
          (rw none c.in-Some.ensures)
          k (rw i (pl ∙ plain-push (drop n os) _ o refl)) refl;
    }
