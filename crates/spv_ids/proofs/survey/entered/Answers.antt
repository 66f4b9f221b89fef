use Rattle.spv_module.specs.Module.{plain_inst}
use Rattle.spv_ids.proofs.Opens.{opened, goes_on}
use Rattle.spv_ids.proofs.survey.entered.Goals as goal

pub returns-then-inst-eq-FUNCTION : goal.returns-then-inst-eq-FUNCTION
returns-then-inst-eq-FUNCTION c =
    λ is h o l. opened is c.args.at (plain_inst c.args.inst.now) h c.if-inst-eq-FUNCTION.true

pub returns-else-inst-eq-FUNCTION : goal.returns-else-inst-eq-FUNCTION
returns-else-inst-eq-FUNCTION c =
    λ is h o l. goes_on is c.args.at c.args.floor (plain_inst c.args.inst.now) h c.if-inst-eq-FUNCTION.false (o l)
