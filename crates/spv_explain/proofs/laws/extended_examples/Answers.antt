use Rattle.spv_explain.proofs.WorkedExtended.{by_profile_not_shown, other_count_not_shown, short_shown}
use Rattle.spv_explain.proofs.laws.extended_examples.Goals as goal

pub returns-clause-shown : goal.returns-clause-shown
returns-clause-shown c = short_shown

pub returns-clause-not_so_many : goal.returns-clause-not_so_many
returns-clause-not_so_many c = other_count_not_shown

pub returns-clause-by_profile : goal.returns-clause-by_profile
returns-clause-by_profile c = by_profile_not_shown
