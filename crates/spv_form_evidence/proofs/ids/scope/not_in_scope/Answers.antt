use Rattle.std.proofs.Common.{refl, ap, map, length, below_more, arith}
use Rattle.std.proofs.lemmas.List.{length-map}
use Rattle.spv_module.specs.Module.{plain_inst, plain_operand}
use Rattle.spv_module.specs.declared.fault.Rule.TheVariants.{D5}
use Rattle.spv_form_evidence.proofs.lemmas.ids.Rules.{within, broken_there}
use Rattle.spv_form_evidence.proofs.lemmas.ids.Scoping.{scoped, unscoped_shows, some_unscoped}
use Rattle.spv_form_evidence.proofs.ids.scope.not_in_scope.Goals as goal

pub bounds-insts-at : goal.bounds-insts-at
bounds-insts-at c =
    let b = c.requires.first in
    let w = within b.0 c.args.bound (map plain_inst c.args.insts.now) D5 c.args.at b.2.broken in
    let l = length-map c.args.insts.now plain_inst in
    omega arith

pub returns-in-Some : goal.returns-in-Some
returns-in-Some c = λ G p.
    let b = c.requires.first in
    let bound = c.args.bound in
    let n = c.args.at in
    let is = map plain_inst c.args.insts.now in
    let i = plain_inst c.index-insts-at.result in
    let t = broken_there b.0 bound c.args.insts.now D5 n c.index-insts-at.result b.2.broken c.index-insts-at.is in
    unscoped_shows G bound is n i c.loop-k.k c.in-Some.definition.inst c.in-Some.definition.function t
    (scoped b.0 bound is D5 n refl b.2.broken)
    (c.in-Some.ensures G bound is n p (p.fits n i t) (c.function_of-here.ensures G is p) c.in_ok-local.ensures)

pub loop-k-preserved : goal.loop-k-preserved
loop-k-preserved c = λ G p.
    let b = c.requires.first in
    let bound = c.args.bound in
    let n = c.args.at in
    let is = map plain_inst c.args.insts.now in
    let i = plain_inst c.index-insts-at.result in
    let t = broken_there b.0 bound c.args.insts.now D5 n c.index-insts-at.result b.2.broken c.index-insts-at.is in
    below_more _ _ (c.loop-k.invariant G p)
    (c.in_default.ensures G bound is n p (p.fits n i t) (c.function_of-here.ensures G is p) c.in_ok-local.ensures)

pub unreachable-requires : goal.unreachable-requires
unreachable-requires c =
    let b = c.requires.first in
    let bound = c.args.bound in
    let n = c.args.at in
    let is = map plain_inst c.args.insts.now in
    let i = plain_inst c.index-insts-at.result in
    let t = broken_there b.0 bound c.args.insts.now D5 n c.index-insts-at.result b.2.broken c.index-insts-at.is in
    let v = ap length c.as_slice-k-end.ensures.value in
    let l = length-map c.index-insts-at.result.operands plain_operand in
    let e = c.loop-k-test.false in
    some_unscoped b.0 bound is n i t b.2 (λ k h. c.loop-k.invariant b.0 b.1 k (omega arith))
