use Rattle.std.proofs.Common.{sym, ◌∙◌}
use Rattle.spv_type_forms.proofs.Meanings.{wide_meant}
use Rattle.spv_type_forms.proofs.types.is_noted_wide.Goals as goal

pub returns : goal.returns
returns c = λ t. wide_meant c.args.definitions.now c.args.t c.meaning.result c.meaning.ensures (sym c.is_wide.ensures ∙ t)
