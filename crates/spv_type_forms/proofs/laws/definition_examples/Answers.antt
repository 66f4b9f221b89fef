use Rattle.std.proofs.Common.{refl}
use Rattle.spv_type_forms.proofs.Worked.{lone_section, lone_defined}
use Rattle.spv_type_forms.proofs.laws.definition_examples.Goals as goal

pub returns-clause-global : goal.returns-clause-global
returns-clause-global c = record { place = 0; defined = lone_defined; variable = refl; section = lone_section }
