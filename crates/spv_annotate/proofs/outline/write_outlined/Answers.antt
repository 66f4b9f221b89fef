use Rattle.std.proofs.Common.{arith}
use Rattle.std.proofs.lemmas.Grind.{elements}
use Rattle.spv_annotate.proofs.outline.write_outlined.Goals as goal

pub returns-then-not-is_in_asked : goal.returns-then-not-is_in_asked
returns-then-not-is_in_asked g c = grind (arith, elements)

pub returns-in-Some : goal.returns-in-Some
returns-in-Some g c = grind (arith, elements)

pub returns-in-None : goal.returns-in-None
returns-in-None g c = grind (arith, elements)
