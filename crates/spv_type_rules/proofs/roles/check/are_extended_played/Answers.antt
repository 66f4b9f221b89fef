use Rattle.std.proofs.Common.{arith}
use Rattle.std.proofs.lemmas.Grind.{common_steps}
use Rattle.spv_type_rules.proofs.roles.check.are_extended_played.Goals as goal

pub returns-in-OfType : goal.returns-in-OfType
returns-in-OfType c = grind (arith, common_steps)
