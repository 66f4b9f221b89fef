use Rattle.spv_flow_evidence.proofs.lemmas.calls.Walked.{sufficient}
use Rattle.spv_flow_evidence.proofs.calls.laws.suffices.Goals as goal

pub returns : goal.returns
returns c = sufficient
