use Rattle.spv_type_rules.proofs.lemmas.roles.Worked.{typed_in_role, stray_not_in_role, stray_refused, no_other_word}
use Rattle.spv_type_rules.proofs.roles.laws.outcome_examples.Goals as goal

pub returns : goal.returns
returns c = record {
  in_role = typed_in_role;
  miscast = stray_not_in_role;
  refusal = stray_refused;
  other_word = no_other_word;
}
