use Rattle.std.proofs.Common.{arith}
use Rattle.std.proofs.lemmas.Grind.{common_steps}
use Rattle.spv_commands.proofs.replying.take_as.Goals as goal

pub returns : goal.returns
returns c = grind (arith, common_steps)
