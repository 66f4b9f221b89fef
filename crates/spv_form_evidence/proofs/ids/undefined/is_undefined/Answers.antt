use Rattle.spv_module.specs.Module.{plain_inst}
use Rattle.spv_form_evidence.proofs.lemmas.ids.Undefining.{undefined_or_not}
use Rattle.spv_form_evidence.proofs.ids.undefined.is_undefined.Goals as goal

pub returns-in-Some : goal.returns-in-Some
returns-in-Some c = λ G bound is f a.
    undefined_or_not G bound is (plain_inst c.args.inst.now) c.args.definitions.now c.args.k c.in-Some.id
    c.is_free.result (c.in-Some.ensures G f) a c.is_free.ensures

pub returns-in-None : goal.returns-in-None
returns-in-None c = λ G bound is f a h. c.in-None.ensures G f h.id h.named
