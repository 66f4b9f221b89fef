use Rattle.std.proofs.Common.{◌≡◌, ◌∷◌, [], true, false, refl}
use Rattle.spv_extended.specs.declared.reach.Reach.TheVariants.{Extended, OpenCl}
use Rattle.spv_std_types.specs.Broken.{mistyped}
use Rattle.spv_std_types.specs.Example.{unlike, value}
use Rattle.spv_std_types.proofs.Brokens.{of_call, of_reach}
use Rattle.spv_std_types.proofs.Worked.{none_first, unlike_mistyped}
use Rattle.spv_std_types.proofs.laws.broken_examples.Goals as goal

pub returns-clause-mistyped : goal.returns-clause-mistyped
returns-clause-mistyped c = λ minor. mistyped 22 refl (_, unlike_mistyped)

pub returns-clause-not_looked_at : goal.returns-clause-not_looked_at
returns-clause-not_looked_at c = λ r b. let no : false ≡ true = of_reach Extended unlike r 22 b in cc

pub returns-clause-value : goal.returns-clause-value
returns-clause-value c = λ minor r b. none_first 0 (of_call (OpenCl minor) (value 8 ∷ []) r 0 b)
