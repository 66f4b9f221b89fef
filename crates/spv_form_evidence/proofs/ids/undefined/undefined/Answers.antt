use Rattle.std.proofs.Common.{ap, map, length, below_more, arith}
use Rattle.std.proofs.lemmas.List.{length-map}
use Rattle.spv_module.specs.Module.{plain_inst, plain_operand}
use Rattle.spv_module.specs.declared.fault.Rule.TheVariants.{D3}
use Rattle.spv_form_evidence.proofs.lemmas.ids.Rules.{broken_there}
use Rattle.spv_form_evidence.proofs.lemmas.ids.Undefining.{undefined_shows, some_undefined}
use Rattle.spv_form_evidence.proofs.ids.undefined.undefined.Goals as goal

pub returns-then-is_undefined : goal.returns-then-is_undefined
returns-then-is_undefined c = λ G a.
    let b = c.requires.first in
    let is = map plain_inst c.args.insts.now in
    let i = plain_inst c.index-insts-at.result in
    let t = broken_there b.0 c.args.bound c.args.insts.now D3 c.args.at c.index-insts-at.result b.2.broken
    c.index-insts-at.is in
    undefined_shows G c.args.bound is c.args.at i c.loop-k.k t
    (c.if-is_undefined.ensures G c.args.bound is (a.each c.args.at i t) c.in_ok-definitions.ensures)

pub loop-k-preserved : goal.loop-k-preserved
loop-k-preserved c = λ G f.
    below_more _ _ (c.loop-k.invariant G f)
    (c.if-is_undefined.ensures G c.args.bound (map plain_inst c.args.insts.now) f c.in_ok-definitions.ensures)

pub unreachable-requires : goal.unreachable-requires
unreachable-requires c =
    let b = c.requires.first in
    let is = map plain_inst c.args.insts.now in
    let i = plain_inst c.index-insts-at.result in
    let t = broken_there b.0 c.args.bound c.args.insts.now D3 c.args.at c.index-insts-at.result b.2.broken
    c.index-insts-at.is in
    let v = ap length c.as_slice-k-end.ensures.value in
    let l = length-map c.index-insts-at.result.operands plain_operand in
    let e = c.loop-k-test.false in
    some_undefined b.0 c.args.bound is c.args.at i t b.2
    (λ k h. c.loop-k.invariant b.0 (b.1.each c.args.at i t) k (omega arith))
