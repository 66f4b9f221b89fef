use Rattle.spv_form_evidence.proofs.lemmas.ids.Worked as worked
use Rattle.spv_form_evidence.proofs.lemmas.ids.WorkedScope as scope
use Rattle.spv_form_evidence.proofs.ids.laws.evidence_examples.Goals as goal

pub returns : goal.returns
returns c = record {
  out_of_range = worked.out_of_range;
  in_range = worked.in_range;
  mention_out_of_range = worked.mention_out_of_range;
  again = worked.again;
  not_earlier = worked.not_earlier;
  undefined = worked.undefined;
  no_use = worked.no_use;
  mention_undefined = worked.mention_undefined;
  early = worked.early;
  no_definition = worked.no_definition;
  outside = scope.outside;
  other_function = scope.other_function;
  miscast = worked.miscast;
  other_role = worked.other_role;
}
