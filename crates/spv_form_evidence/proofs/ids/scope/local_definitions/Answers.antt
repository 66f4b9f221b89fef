use Rattle.std.proofs.Common.{◌≡◌, map, length, subst, arith}
use Rattle.std.proofs.lemmas.List.{length-map}
use Rattle.spv_module.specs.Module.{plain_inst}
use Rattle.spv_layout.proofs.Misfits.{inst_there}
use Rattle.spv_form_evidence.specs.ids.inner.Scope.{AreLocal}
use Rattle.spv_form_evidence.proofs.ids.scope.local_definitions.Goals as goal

pub loop-i-preserved : goal.loop-i-preserved
loop-i-preserved c =
    let t = inst_there c.args.insts.now c.loop-i.i c.index-insts-i.result c.loop-i-test.true c.index-insts-i.is in
    c.in_ok-keep_local.ensures c.requires.plan.0
    (map plain_inst c.args.insts.now) c.args.bound c.requires.plan.1 t c.loop-i.invariant

pub returns : goal.returns
returns c =
    let is = map plain_inst c.args.insts.now in
    let l = length-map c.args.insts.now plain_inst in
    let a = c.loop-i.auto.i-end in
    let t = c.loop-i-test.false in
    let e : c.loop-i.i ≡ length is = omega arith in
    subst (λ n. AreLocal c.args.bound is c.args.here n c.loop-i.local) e c.loop-i.invariant
