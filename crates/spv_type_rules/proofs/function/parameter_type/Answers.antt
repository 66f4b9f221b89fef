use Rattle.std.proofs.Common.{arith}
use Rattle.std.proofs.lemmas.Grind.{elements}
use Rattle.spv_type_rules.proofs.function.parameter_type.Goals as goal

pub returns-in_err-t : goal.returns-in_err-t
returns-in_err-t c = grind (arith, elements)

pub returns-in-Id : goal.returns-in-Id
returns-in-Id c = grind (arith, elements)

pub returns-in_default : goal.returns-in_default
returns-in_default c = grind (arith, elements)
