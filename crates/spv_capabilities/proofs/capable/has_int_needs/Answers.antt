use Rattle.std.proofs.Common.{arith}
use Rattle.std.proofs.lemmas.Grind.{common_steps}
use Rattle.spv_capabilities.proofs.capable.has_int_needs.Goals as goal

pub bounds-0 : goal.bounds-0
bounds-0 c = grind (arith, common_steps)

pub bounds-1 : goal.bounds-1
bounds-1 c = grind (arith, common_steps)

pub has-requires : goal.has-requires
has-requires c = grind (arith, common_steps)

pub has-requires-in-Result-2 : goal.has-requires-in-Result-2
has-requires-in-Result-2 c = grind (arith, common_steps)

pub returns-in-Result : goal.returns-in-Result
returns-in-Result c = grind (arith, common_steps)

pub returns-in-Result-2 : goal.returns-in-Result-2
returns-in-Result-2 c = grind (arith, common_steps)

pub returns-in_default : goal.returns-in_default
returns-in_default c = grind (arith, common_steps)

pub returns-in_default-2 : goal.returns-in_default-2
returns-in_default-2 c = grind (arith, common_steps)

pub returns-in_default-3 : goal.returns-in_default-3
returns-in_default-3 c = grind (arith, common_steps)

pub returns-in_default-4 : goal.returns-in_default-4
returns-in_default-4 c = grind (arith, common_steps)
