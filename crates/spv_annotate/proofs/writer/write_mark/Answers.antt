use Rattle.std.proofs.Common.{arith}
use Rattle.std.proofs.lemmas.Grind.{common_steps}
use Rattle.spv_annotate.proofs.writer.write_mark.Goals as goal

pub returns : goal.returns
returns g c = grind (arith, common_steps)
