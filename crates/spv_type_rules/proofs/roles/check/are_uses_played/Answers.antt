use Rattle.std.proofs.Common.{arith}
use Rattle.std.proofs.lemmas.Grind.{common_steps}
use Rattle.spv_type_rules.proofs.roles.check.are_uses_played.Goals as goal

pub returns-in-Id-Any-default : goal.returns-in-Id-Any-default
returns-in-Id-Any-default c = grind (arith, common_steps)

pub returns-in-Id-default-Any : goal.returns-in-Id-default-Any
returns-in-Id-default-Any c = grind (arith, common_steps)
