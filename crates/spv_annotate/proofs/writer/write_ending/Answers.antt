use Rattle.std.proofs.Common.{arith}
use Rattle.std.proofs.lemmas.Grind.{common_steps, elements}
use Rattle.spv_annotate.proofs.writer.write_ending.Goals as goal

pub overflow_cast-len : goal.overflow_cast-len
overflow_cast-len g c = grind (arith, common_steps)

pub returns-then-not-is_asked : goal.returns-then-not-is_asked
returns-then-not-is_asked g c = grind (arith, elements)

pub returns : goal.returns
returns g c = grind (arith, elements)
