use Rattle.spv_module.specs.Module.{plain_inst}
use Rattle.spv_form_evidence.specs.ids.inner.Range.{IsIdAt}
use Rattle.spv_form_evidence.proofs.lemmas.ids.Ranging.{id_or_none}
use Rattle.spv_form_evidence.proofs.ids.range.id_at.Goals as goal

pub returns-in-Some : goal.returns-in-Some
returns-in-Some c = λ G f. IsIdAt.as_named (c.in-Some.ensures G f)

pub returns-in-None : goal.returns-in-None
returns-in-None c = λ G f. id_or_none G (plain_inst c.args.inst.now) c.args.k c.own_result_at.result
    (c.in-None.ensures G f) c.own_result_at.ensures
