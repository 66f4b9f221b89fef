use Rattle.spv_type_forms.proofs.Choices.{choices_decide}
use Rattle.spv_type_forms.proofs.laws.chain_decided.Goals as goal

pub returns : goal.returns
returns c = choices_decide
