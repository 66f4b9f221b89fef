use Rattle.std.proofs.Common.{◌∙◌, sym}
use Rattle.spv_module.specs.Module.{plain_inst}
use Rattle.spv_ids.proofs.Steps.{announces_id, announces_none, announced_put, announced_nothing}
use Rattle.spv_ids.proofs.survey.announce.Goals as goal

pub returns-in_ok-put : goal.returns-in_ok-put
returns-in_ok-put c = λ is h a.
    announced_put is c.args.at c.in-Some.id c.args.announced.now c.put.new.self
    (announces_id is c.args.at c.in-Some.id (plain_inst c.args.inst.now) h
    (sym c.in-Some.is ∙ c.announced_by.ensures)) c.in_ok-put.ensures a

pub returns-in_default : goal.returns-in_default
returns-in_default c = λ is h a.
    announced_nothing is c.args.at c.args.announced.now
    (announces_none is c.args.at (plain_inst c.args.inst.now) h (sym c.in_default.is ∙ c.announced_by.ensures)) a
