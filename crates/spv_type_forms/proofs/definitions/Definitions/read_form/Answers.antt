use Rattle.std.proofs.Common.{sym, ◌∙◌}
use Rattle.spv_type_forms.proofs.definitions.Definitions.read_form.Goals as goal

pub returns-in-Some : goal.returns-in-Some
returns-in-Some c = sym (c.meaning.ensures.of_form c.in-Some.form (sym c.form.ensures ∙ c.in-Some.is))
