use Rattle.std.proofs.Common.{refl}
use Rattle.spv_type_forms.proofs.Worked.{lone_section, lone_defined, no_seven}
use Rattle.spv_type_rules.proofs.roles.laws.role_examples.Goals as goal

pub returns-clause-global : goal.returns-clause-global
returns-clause-global c = record { place = 0; defined = lone_defined; variable = refl; section = lone_section }

pub returns-clause-no_global : goal.returns-clause-no_global
returns-clause-no_global c = λ g. no_seven g.place g.defined
