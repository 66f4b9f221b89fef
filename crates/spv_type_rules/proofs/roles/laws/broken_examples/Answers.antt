use Rattle.spv_type_rules.proofs.lemmas.roles.Worked.{stray_broken, unused_unbroken, argument_broken, argument_unbroken}
use Rattle.spv_type_rules.proofs.lemmas.roles.Worked.{unseen_unbroken, mention_unbroken}
use Rattle.spv_type_rules.proofs.roles.laws.broken_examples.Goals as goal

pub returns-clause-stray : goal.returns-clause-stray
returns-clause-stray c = stray_broken

pub returns-clause-unused : goal.returns-clause-unused
returns-clause-unused c = unused_unbroken

pub returns-clause-argument : goal.returns-clause-argument
returns-clause-argument c = argument_unbroken

pub returns-clause-no_argument : goal.returns-clause-no_argument
returns-clause-no_argument c = argument_broken

pub returns-clause-unseen : goal.returns-clause-unseen
returns-clause-unseen c = unseen_unbroken

pub returns-clause-mention : goal.returns-clause-mention
returns-clause-mention c = mention_unbroken
