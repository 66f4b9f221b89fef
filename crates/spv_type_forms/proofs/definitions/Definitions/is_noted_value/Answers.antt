use Rattle.std.proofs.Common.{sym, ◌∙◌}
use Rattle.spv_type_forms.proofs.Meanings.{value_read}
use Rattle.spv_type_forms.proofs.definitions.Definitions.is_noted_value.Goals as goal

pub returns-in-Some : goal.returns-in-Some
returns-in-Some c = λ _.
    value_read c.args.self.now c.args.id c.meaning.result c.in-Some._t c.meaning.ensures
    (sym c.value_type.ensures ∙ c.in-Some.is)
