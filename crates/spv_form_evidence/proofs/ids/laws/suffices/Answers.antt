use Rattle.spv_form_evidence.proofs.lemmas.ids.Sufficing.{ids_suffice, roles_suffice}
use Rattle.spv_form_evidence.proofs.ids.laws.suffices.Goals as goal

pub returns : goal.returns
returns c = record { ids = ids_suffice; roles = roles_suffice }
