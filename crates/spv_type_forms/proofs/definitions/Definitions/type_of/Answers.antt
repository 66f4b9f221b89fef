use Rattle.std.proofs.Common.{sym, ◌∙◌}
use Rattle.spv_type_forms.proofs.Meanings.{type_read}
use Rattle.spv_type_forms.proofs.definitions.Definitions.type_of.Goals as goal

pub returns-in-Some : goal.returns-in-Some
returns-in-Some c =
    sym (type_read c.args.self.now c.args.id c.meaning.result c.in-Some.t c.meaning.ensures
    (sym c.value_type.ensures ∙ c.in-Some.is))
