use Rattle.std.proofs.Common.{◌≡◌, map, subst, arith}
use Rattle.spv_module.specs.Module.{plain_inst}
use Rattle.spv_layout.proofs.Misfits.{inst_there}
use Rattle.spv_form_evidence.specs.ids.inner.Order.{AreAnnounced}
use Rattle.spv_form_evidence.proofs.ids.announced.announced_before.Goals as goal

pub loop-m-preserved : goal.loop-m-preserved
loop-m-preserved c =
    let m = c.loop-m-test.true in
    let q = c.requires in
    let t = inst_there c.args.insts.now c.loop-m.m c.index-insts-m.result (omega arith) c.index-insts-m.is in
    c.in_ok-keep_announced.ensures (map plain_inst c.args.insts.now) c.args.bound t c.loop-m.invariant

pub returns : goal.returns
returns c =
    let a = c.loop-m.auto.m-end in
    let t = c.loop-m-test.false in
    let e : c.loop-m.m ≡ c.args.at = omega arith in
    subst (λ n. AreAnnounced c.args.bound (map plain_inst c.args.insts.now) n c.loop-m.announced) e c.loop-m.invariant
