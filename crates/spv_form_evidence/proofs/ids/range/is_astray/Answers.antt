use Rattle.spv_module.specs.Module.{plain_inst}
use Rattle.spv_form_evidence.proofs.lemmas.ids.Ranging.{astray_or_not}
use Rattle.spv_form_evidence.proofs.ids.range.is_astray.Goals as goal

pub returns-in-Some : goal.returns-in-Some
returns-in-Some c = λ G f. astray_or_not G c.args.bound
    (plain_inst c.args.inst.now) c.args.k c.in-Some.id c.is_out_of_range.result
    (c.in-Some.ensures G f) c.is_out_of_range.ensures

pub returns-in-None : goal.returns-in-None
returns-in-None c = λ G f a. c.in-None.ensures G f a.id a.at
