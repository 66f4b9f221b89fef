use Rattle.std.proofs.Common.{arith}
use Rattle.std.proofs.lemmas.Grind.{common_steps}
use Rattle.spv_conditions.proofs.further.after_enumerant.Goals as goal

pub returns-in-Id-2 : goal.returns-in-Id-2
returns-in-Id-2 c = grind (arith, common_steps)

pub returns-in-Id : goal.returns-in-Id
returns-in-Id c = grind (arith, common_steps)

pub returns-in_default : goal.returns-in_default
returns-in_default c = grind (arith, common_steps)
