use Rattle.std.proofs.Common.{◌∙◌, ap}
use Rattle.std.specs.Prelude.{slice_get}
use Rattle.spv_module.specs.Module.{plain_inst, plain_operands}
use Rattle.spv_form_evidence.specs.ids.inner.Uses.{IsNamedAt, mention_in}
use Rattle.spv_form_evidence.proofs.lemmas.ids.Using.{named_or_none}
use Rattle.spv_form_evidence.proofs.ids.uses.named_at.Goals as goal

pub returns-in-Some : goal.returns-in-Some
returns-in-Some c = λ G f. IsNamedAt.as_use c.in-Some.used.role (c.in-Some.ensures G f)

pub returns-in-None : goal.returns-in-None
returns-in-None c = λ G f.
    named_or_none G (plain_inst c.args.inst.now) c.args.k c.mention_at.result (c.in-None.ensures G f)
    (c.mention_at.ensures ∙ ap (λ os. mention_in (slice_get (plain_operands os) c.args.k)) c.as_slice.ensures.value)
