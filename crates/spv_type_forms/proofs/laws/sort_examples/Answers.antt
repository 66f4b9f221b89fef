use Rattle.std.proofs.Common.{refl, inr}
use Rattle.spv_type_forms.proofs.laws.sort_examples.Goals as goal

pub returns-clause-some_int : goal.returns-clause-some_int
returns-clause-some_int c = (64, refl)

pub returns-clause-number : goal.returns-clause-number
returns-clause-number c = inr (32, refl)
