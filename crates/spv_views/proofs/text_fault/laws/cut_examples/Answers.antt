use Rattle.spv_views.proofs.lemmas.text_fault.Told.{no_octet}
use Rattle.spv_views.proofs.text_fault.laws.cut_examples.Goals as goal

pub returns-clause-not_octet : goal.returns-clause-not_octet
returns-clause-not_octet c = no_octet
