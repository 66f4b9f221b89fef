use Rattle.std.proofs.Common.{◌≡◌, ℕ, map, length, subst, arith}
use Rattle.std.proofs.lemmas.List.{length-map}
use Rattle.spv_module.specs.Module.{plain_inst}
use Rattle.spv_capabilities.specs.inner.Survey.{AreGathered}
use Rattle.spv_layout.proofs.Misfits.{inst_there}
use Rattle.spv_capabilities.proofs.gather.gather.Goals as goal

pub loop-inst-init : goal.loop-inst-init
loop-inst-init c = c.in_ok-gathered.ensures c.args.linkage (map plain_inst c.args.insts.now)
    (length-map c.args.insts.now plain_inst)

pub loop-inst-preserved : goal.loop-inst-preserved
loop-inst-preserved c =
    let t = inst_there c.args.insts.now c.loop-inst.inst-index c.inst-item.result c.loop-inst-test.true c.inst-item.is
    in
    c.in_ok-add.ensures (map plain_inst c.args.insts.now) c.loop-inst.inst-index c.requires t c.loop-inst.invariant

pub returns : goal.returns
returns c =
    let is = map plain_inst c.args.insts.now in
    let m = length-map c.args.insts.now plain_inst in
    let e : c.loop-inst.inst-index ≡ length is = omega (arith, m) in
    subst (λ (n : ℕ). AreGathered c.args.linkage is n c.loop-inst.gathered) e c.loop-inst.invariant
