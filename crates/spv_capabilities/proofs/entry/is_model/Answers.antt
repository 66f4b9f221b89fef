use Rattle.std.proofs.Common.{arith}
use Rattle.std.proofs.lemmas.Grind.{common_steps}
use Rattle.spv_capabilities.proofs.entry.is_model.Goals as goal

pub bounds-0 : goal.bounds-0
bounds-0 c = grind (arith, common_steps)

pub bounds-operands-0 : goal.bounds-operands-0
bounds-operands-0 c = grind (arith, common_steps)

pub bounds-1 : goal.bounds-1
bounds-1 c = grind (arith, common_steps)

pub bounds-1-in-Value-operands-offset24 : goal.bounds-1-in-Value-operands-offset24
bounds-1-in-Value-operands-offset24 c = grind (arith, common_steps)

pub returns-in-Value : goal.returns-in-Value
returns-in-Value c = grind (arith, common_steps)

pub returns-in_default : goal.returns-in_default
returns-in_default c = grind (arith, common_steps)

pub returns-in_default-2 : goal.returns-in_default-2
returns-in_default-2 c = grind (arith, common_steps)

pub returns-in_default-3 : goal.returns-in_default-3
returns-in_default-3 c = grind (arith, common_steps)

pub returns-in_default-4 : goal.returns-in_default-4
returns-in_default-4 c = grind (arith, common_steps)

pub returns-in_default-5 : goal.returns-in_default-5
returns-in_default-5 c = grind (arith, common_steps)

pub returns-in_default-6 : goal.returns-in_default-6
returns-in_default-6 c = grind (arith, common_steps)

pub returns-in_default-7 : goal.returns-in_default-7
returns-in_default-7 c = grind (arith, common_steps)
