use Rattle.std.proofs.Common.{◌∙◌, sym}
use Rattle.spv_module.specs.Module.{plain_inst}
use Rattle.spv_form_evidence.proofs.lemmas.ids.Using.{use_here, no_use_here}
use Rattle.spv_form_evidence.proofs.ids.uses.use_at.Goals as goal

pub returns-in_default-id_at : goal.returns-in_default-id_at
returns-in_default-id_at c =
    λ G f x r. no_use_here G (plain_inst c.args.inst.now) c.args.k x r (sym c.id_at.ensures ∙ c.in_default-id_at.is)

pub returns : goal.returns
returns c = λ G f.
    use_here G (plain_inst c.args.inst.now) c.args.k c.in-Some-id_at.id c.in-Some.role
    (sym c.id_at.ensures ∙ c.in-Some-id_at.is) (c.in-Some.ensures G f)
