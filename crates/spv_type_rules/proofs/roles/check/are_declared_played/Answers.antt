use Rattle.std.proofs.Common.{arith}
use Rattle.std.proofs.lemmas.Grind.{common_steps}
use Rattle.spv_type_rules.proofs.roles.check.are_declared_played.Goals as goal

pub returns-in-Id-Any : goal.returns-in-Id-Any
returns-in-Id-Any c = grind (arith, common_steps)

pub returns-in-Result-default : goal.returns-in-Result-default
returns-in-Result-default c = grind (arith, common_steps)

pub returns-in-Id-Any-2 : goal.returns-in-Id-Any-2
returns-in-Id-Any-2 c = grind (arith, common_steps)

pub returns-in-Result-OfType-2 : goal.returns-in-Result-OfType-2
returns-in-Result-OfType-2 c = grind (arith, common_steps)

pub returns-in-Id-Any-3 : goal.returns-in-Id-Any-3
returns-in-Id-Any-3 c = grind (arith, common_steps)

pub returns-in-Result-OfType : goal.returns-in-Result-OfType
returns-in-Result-OfType c = grind (arith, common_steps)
