use Rattle.std.proofs.Common.{◌∙◌, sym}
use Rattle.spv_module.specs.Module.{plain_inst}
use Rattle.spv_form_evidence.proofs.lemmas.ids.Announcing.{announced_put, announced_nothing}
use Rattle.spv_form_evidence.proofs.ids.announced.keep_announced.Goals as goal

pub returns-in_ok-put : goal.returns-in_ok-put
returns-in_ok-put c = λ is bound t a.
    announced_put bound is c.args.at c.in-Some.id (plain_inst c.args.inst.now) c.args.announced.now c.put.new.self t
    (sym c.announced_by.ensures ∙ c.in-Some.is) c.in_ok-put.ensures a

pub returns-in_default : goal.returns-in_default
returns-in_default c = λ is bound t a.
    announced_nothing bound is c.args.at (plain_inst c.args.inst.now) c.args.announced.now t
    (sym c.announced_by.ensures ∙ c.in_default.is) a
