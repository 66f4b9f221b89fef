use Rattle.std.proofs.Common.{refl, ap, map, length, below_more, arith}
use Rattle.std.proofs.lemmas.List.{length-map}
use Rattle.spv_module.specs.Module.{plain_inst, plain_operand}
use Rattle.spv_module.specs.declared.fault.Rule.TheVariants.{D4}
use Rattle.spv_form_evidence.proofs.lemmas.ids.Rules.{broken_there, within}
use Rattle.spv_form_evidence.proofs.lemmas.ids.Ordering.{ordered, disordered_shows, some_disordered}
use Rattle.spv_form_evidence.proofs.ids.order.not_in_order.Goals as goal

pub bounds-insts-at : goal.bounds-insts-at
bounds-insts-at c =
    let b = c.requires.first in
    let w = within b.0 c.args.bound (map plain_inst c.args.insts.now) D4 c.args.at b.2.broken in
    let l = length-map c.args.insts.now plain_inst in
    omega arith

pub site_of-site-requires : goal.site_of-site-requires
site_of-site-requires c =
    let b = c.requires.first in
    let w = within b.0 c.args.bound (map plain_inst c.args.insts.now) D4 c.args.at b.2.broken in
    let p = b.1.count in
    omega arith

pub returns-in-Some : goal.returns-in-Some
returns-in-Some c = λ G p.
    let b = c.requires.first in
    let bound = c.args.bound in
    let n = c.args.at in
    let is = map plain_inst c.args.insts.now in
    let i = plain_inst c.index-insts-at.result in
    let t = broken_there b.0 bound c.args.insts.now D4 n c.index-insts-at.result b.2.broken c.index-insts-at.is in
    disordered_shows G bound is n i c.loop-k.k c.in-Some.first t (ordered b.0 bound is D4 n refl b.2.broken)
    (c.in-Some.ensures G bound is n (p.fits n i t)
    (c.site_of-site.ensures G is p t) c.in_ok-definitions.ensures c.in_ok-announced.ensures)

pub loop-k-preserved : goal.loop-k-preserved
loop-k-preserved c = λ G p.
    let b = c.requires.first in
    let bound = c.args.bound in
    let n = c.args.at in
    let is = map plain_inst c.args.insts.now in
    let i = plain_inst c.index-insts-at.result in
    let t = broken_there b.0 bound c.args.insts.now D4 n c.index-insts-at.result b.2.broken c.index-insts-at.is in
    below_more _ _ (c.loop-k.invariant G p)
    (c.in_default.ensures G bound is n (p.fits n i t)
    (c.site_of-site.ensures G is p t) c.in_ok-definitions.ensures c.in_ok-announced.ensures)

pub unreachable-requires : goal.unreachable-requires
unreachable-requires c =
    let b = c.requires.first in
    let bound = c.args.bound in
    let n = c.args.at in
    let is = map plain_inst c.args.insts.now in
    let i = plain_inst c.index-insts-at.result in
    let t = broken_there b.0 bound c.args.insts.now D4 n c.index-insts-at.result b.2.broken c.index-insts-at.is in
    let v = ap length c.as_slice-k-end.ensures.value in
    let l = length-map c.index-insts-at.result.operands plain_operand in
    let e = c.loop-k-test.false in
    some_disordered b.0 bound is n i t b.2 (λ k h. c.loop-k.invariant b.0 b.1 k (omega arith))
