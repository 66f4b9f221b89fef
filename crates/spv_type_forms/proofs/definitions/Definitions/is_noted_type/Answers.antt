use Rattle.std.proofs.Common.{sym, ◌∙◌}
use Rattle.spv_type_forms.proofs.definitions.Definitions.is_noted_type.Goals as goal

pub returns : goal.returns
returns c = λ t. c.meaning.ensures.declares (sym c.is_type.ensures ∙ t)
