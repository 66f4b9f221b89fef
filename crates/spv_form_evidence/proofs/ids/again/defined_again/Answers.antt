use Rattle.std.proofs.Common.{◌∙◌, refl, sym, map, below_more, arith}
use Rattle.std.proofs.lemmas.List.{length-map}
use Rattle.spv_module.specs.Module.{plain_inst}
use Rattle.spv_module.specs.declared.fault.Rule.TheVariants.{D2}
use Rattle.spv_form_evidence.specs.ids.Evidence.{IsEvidence}
use Rattle.spv_layout.proofs.Misfits.{inst_there}
use Rattle.spv_form_evidence.proofs.lemmas.ids.Rules.{within, broken_there, defined_here, result_here, again}
use Rattle.spv_form_evidence.proofs.ids.again.defined_again.Goals as goal

pub returns-then-has_result : goal.returns-then-has_result
returns-then-has_result c = λ G bound.
    let b = c.requires.broken in
    let is = map plain_inst c.args.insts.now in
    let n = c.args.at in
    let x = c.in-Some.id in
    let t = broken_there b.0 b.1 c.args.insts.now D2 n c.index-insts-at.result b.2 c.index-insts-at.is in
    let w = within b.0 b.1 is D2 n b.2 in
    let l = length-map c.args.insts.now plain_inst in
    let m = c.loop-m-test.true in
    let s = inst_there c.args.insts.now c.loop-m.m c.index-insts-m.result (omega arith) c.index-insts-m.is in
    IsEvidence.defined_again n c.loop-m.m x
    (defined_here is n x (plain_inst c.index-insts-at.result) t (sym c.result_id.ensures ∙ c.in-Some.is)) m
    (defined_here is c.loop-m.m x (plain_inst c.index-insts-m.result) s (c.has_result.ensures.0 c.if-has_result.true))

pub loop-m-preserved : goal.loop-m-preserved
loop-m-preserved c =
    let b = c.requires.broken in
    let is = map plain_inst c.args.insts.now in
    let w = within b.0 b.1 is D2 c.args.at b.2 in
    let l = length-map c.args.insts.now plain_inst in
    let m = c.loop-m-test.true in
    let s = inst_there c.args.insts.now c.loop-m.m c.index-insts-m.result (omega arith) c.index-insts-m.is in
    below_more _ _ c.loop-m.invariant
    (λ d. let h = c.has_result.ensures.1 (result_here is c.loop-m.m c.in-Some.id
    (plain_inst c.index-insts-m.result) s d) in let g = c.if-has_result.false in cc)

pub unreachable-requires-2 : goal.unreachable-requires-2
unreachable-requires-2 c =
    let b = c.requires.broken in
    let is = map plain_inst c.args.insts.now in
    let n = c.args.at in
    let t = broken_there b.0 b.1 c.args.insts.now D2 n c.index-insts-at.result b.2 c.index-insts-at.is in
    let e = again b.0 b.1 is D2 n c.in-Some.id (plain_inst c.index-insts-at.result) refl t
    (sym c.result_id.ensures ∙ c.in-Some.is) b.2 in
    let l = e.below in
    c.loop-m.invariant e.inst (omega arith) e.there
