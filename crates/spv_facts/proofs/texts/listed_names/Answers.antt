use Rattle.std.proofs.Common.{arith}
use Rattle.std.proofs.lemmas.Grind.{elements}
use Rattle.spv_facts.proofs.texts.listed_names.Goals as goal

pub returns-in-Value : goal.returns-in-Value
returns-in-Value c = grind (arith, elements)

pub returns-in-Bit : goal.returns-in-Bit
returns-in-Bit c = grind (arith, elements)
