use Rattle.std.proofs.Common.{arith}
use Rattle.std.proofs.lemmas.Grind.{elements}
use Rattle.spv_type_rules.proofs.repeat.Seen.new.Goals as goal

pub returns : goal.returns
returns c = grind (arith, elements)
