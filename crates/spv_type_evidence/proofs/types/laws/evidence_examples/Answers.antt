use Rattle.spv_type_evidence.proofs.lemmas.types.Worked as worked
use Rattle.spv_type_evidence.proofs.types.laws.evidence_examples.Goals as goal

pub returns : goal.returns
returns c = record {
  count = worked.count;
  component = worked.component;
  again = worked.first;
  other = worked.second;
  call = worked.number;
  no_call = worked.other_number;
}
