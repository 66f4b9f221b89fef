use Rattle.spv_module.specs.Module.{plain_inst}
use Rattle.spv_declarations.specs.inner.Sets.{IsIn}
use Rattle.spv_standard_evidence.proofs.Missed.{in_none, in_one, in_other}
use Rattle.spv_standard_evidence.proofs.interfaces.missing.missing_at.Goals as goal

pub returns-in_default : goal.returns-in_default
returns-in_default c = λ G fit.
    in_none G c.args.minor c.args.definitions.now (IsIn c.args.named.now) c.args.number c.in_default.ensures

pub returns-in-Some-missed_by : goal.returns-in-Some-missed_by
returns-in-Some-missed_by c = λ G fit.
    let i = plain_inst c.inst.result.now in
    in_one G c.args.minor c.args.definitions.now (IsIn c.args.named.now) c.args.number c.in-Some.function
    c.in-Some-missed_by.id i c.in-Some.ensures c.inst.ensures
    (c.in-Some-missed_by.ensures G (fit.each c.args.number i c.inst.ensures))

pub returns-in-None : goal.returns-in-None
returns-in-None c = λ G fit.
    let i = plain_inst c.inst.result.now in
    in_other G c.args.minor c.args.definitions.now (IsIn c.args.named.now) c.args.number i c.inst.ensures
    (c.in-None.ensures G (fit.each c.args.number i c.inst.ensures))
