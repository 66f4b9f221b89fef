use Rattle.std.proofs.Common.{arith}
use Rattle.std.proofs.lemmas.Grind.{elements}
use Rattle.spv_type_rules.proofs.repeat.place_of.Goals as goal

pub returns-in-Nothing : goal.returns-in-Nothing
returns-in-Nothing c = grind (arith, elements)

pub returns-in-Alike : goal.returns-in-Alike
returns-in-Alike c = grind (arith, elements)

pub loop-at-preserved : goal.loop-at-preserved
loop-at-preserved c = grind (arith, elements)
