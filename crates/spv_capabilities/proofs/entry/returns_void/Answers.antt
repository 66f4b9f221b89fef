use Rattle.std.proofs.Common.{◌∙◌, sym}
use Rattle.spv_module.specs.Module.{plain_inst}
use Rattle.spv_capabilities.proofs.Sound.{returns_tells, no_returns}
use Rattle.spv_capabilities.proofs.entry.returns_void.Goals as goal

pub returns-in-Some : goal.returns-in-Some
returns-in-Some c =
    let i = plain_inst c.inst.result.now in
    returns_tells c.args.survey.now.insts c.args.function c.in-Some.id i c.is_void.result c.inst.ensures
    (sym c.type_id.ensures ∙ c.in-Some.is) c.is_void.ensures

pub returns-in-None : goal.returns-in-None
returns-in-None c = no_returns c.args.survey.now.insts c.args.function (plain_inst c.inst.result.now) c.inst.ensures
    (sym c.type_id.ensures ∙ c.in-None.is)
