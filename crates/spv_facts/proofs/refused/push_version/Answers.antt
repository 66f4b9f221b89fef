use Rattle.std.proofs.Common.{arith}
use Rattle.std.proofs.lemmas.Grind.{common_steps}
use Rattle.spv_facts.proofs.refused.push_version.Goals as goal

pub returns : goal.returns
returns c = grind (arith, common_steps)
