use Rattle.std.proofs.Common.{refl, ap, map, length, below_more, arith}
use Rattle.std.proofs.lemmas.List.{length-map}
use Rattle.spv_module.specs.Module.{plain_inst, plain_operand}
use Rattle.spv_module.specs.declared.fault.Rule.TheVariants.{D1}
use Rattle.spv_form_evidence.proofs.lemmas.ids.Rules.{broken_there}
use Rattle.spv_form_evidence.proofs.lemmas.ids.Ranging.{astray_shows, some_astray}
use Rattle.spv_form_evidence.proofs.ids.range.out_of_range.Goals as goal

pub returns-then-is_astray : goal.returns-then-is_astray
returns-then-is_astray c = λ G a.
    let b = c.requires.broken in
    let is = map plain_inst c.args.insts.now in
    let i = plain_inst c.index-insts-at.result in
    let t = broken_there b.0 c.args.bound c.args.insts.now D1 c.args.at c.index-insts-at.result b.2 c.index-insts-at.is
    in
    astray_shows G c.args.bound is c.args.at i c.loop-k.k t (c.if-is_astray.ensures G (a.each c.args.at i t))

pub loop-k-preserved : goal.loop-k-preserved
loop-k-preserved c = λ G f. below_more _ _ (c.loop-k.invariant G f) (c.if-is_astray.ensures G f)

pub unreachable-requires : goal.unreachable-requires
unreachable-requires c =
    let b = c.requires.broken in
    let is = map plain_inst c.args.insts.now in
    let i = plain_inst c.index-insts-at.result in
    let t = broken_there b.0 c.args.bound c.args.insts.now D1 c.args.at c.index-insts-at.result b.2 c.index-insts-at.is
    in
    let v = ap length c.as_slice-k-end.ensures.value in
    let l = length-map c.index-insts-at.result.operands plain_operand in
    let e = c.loop-k-test.false in
    some_astray b.0 c.args.bound is D1 c.args.at i refl t b.2
    (λ k h. c.loop-k.invariant b.0 (b.1.each c.args.at i t) k (omega arith))
