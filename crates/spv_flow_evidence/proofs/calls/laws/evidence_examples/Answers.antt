use Rattle.spv_flow_evidence.proofs.lemmas.calls.Worked.{inner, no_entry, longer, outer}
use Rattle.spv_flow_evidence.proofs.calls.laws.evidence_examples.Goals as goal

pub returns : goal.returns
returns c = record { inner = inner; no_entry = no_entry; longer = longer; outside = outer }
