use Rattle.spv_explain.proofs.Worked.{earlier_version_told, few_told, later_version_told, no_magic_told}
use Rattle.spv_explain.proofs.Worked.{not_turned_told, one_told}
use Rattle.spv_explain.proofs.laws.refused_examples.Goals as goal

pub returns-clause-few : goal.returns-clause-few
returns-clause-few c = few_told

pub returns-clause-one : goal.returns-clause-one
returns-clause-one c = one_told

pub returns-clause-no_magic : goal.returns-clause-no_magic
returns-clause-no_magic c = no_magic_told

pub returns-clause-not_turned : goal.returns-clause-not_turned
returns-clause-not_turned c = not_turned_told

pub returns-clause-earlier : goal.returns-clause-earlier
returns-clause-earlier c = earlier_version_told

pub returns-clause-later : goal.returns-clause-later
returns-clause-later c = later_version_told
