use Rattle.std.proofs.Common.{◌≡◌, arith, length, map}
use Rattle.std.proofs.lemmas.List.{length-map}
use Rattle.spv_module.specs.Module.{plain_inst}
use Rattle.spv_layout.proofs.Misfits.{inst_there, fit_more, fit_all, misfit_first}
use Rattle.spv_layout.proofs.plan.first_misfit.Goals as goal

pub returns-in_default-clause-some : goal.returns-in_default-clause-some
returns-in_default-clause-some c =
    misfit_first c.args.profile c.args.kinds.now (map plain_inst c.args.insts.now) c.loop-i.i (plain_inst c.index-insts-i.result)
    (inst_there c.args.insts.now c.loop-i.i c.index-insts-i.result c.loop-i-test.true c.index-insts-i.is)
    c.in_default.ensures.misfit c.loop-i.invariant

pub loop-i-preserved : goal.loop-i-preserved
loop-i-preserved c =
    fit_more c.args.profile c.args.kinds.now (map plain_inst c.args.insts.now) c.loop-i.i (plain_inst c.index-insts-i.result)
    (inst_there c.args.insts.now c.loop-i.i c.index-insts-i.result c.loop-i-test.true c.index-insts-i.is)
    c.in-Some.ensures.fits c.loop-i.invariant

pub returns-clause-none : goal.returns-clause-none
returns-clause-none c =
    let l = length-map c.args.insts.now plain_inst in
    let e : c.loop-i.i ≡ length (map plain_inst c.args.insts.now) = omega arith in
    fit_all c.args.profile c.args.kinds.now (map plain_inst c.args.insts.now) c.loop-i.i e c.loop-i.invariant
