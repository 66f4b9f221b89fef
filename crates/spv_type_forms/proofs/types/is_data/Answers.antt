use Rattle.std.proofs.Common.{◌∙◌, sym}
use Rattle.spv_type_forms.proofs.Meanings.{data_meant}
use Rattle.spv_type_forms.proofs.types.is_data.Goals as goal

pub returns-then-is_data : goal.returns-then-is_data
returns-then-is_data c = (
  λ _. data_meant c.args.definitions.now c.args.t c.meaning.result c.meaning.ensures (sym c.is_data.ensures ∙ c.if-is_data.true),
  λ _. c.if-is_data.true,
)
