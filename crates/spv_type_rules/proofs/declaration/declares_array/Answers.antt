use Rattle.std.proofs.Common.{arith}
use Rattle.std.proofs.lemmas.Grind.{common_steps}
use Rattle.spv_type_rules.proofs.Lengths.{too_few, too_many}
use Rattle.spv_type_rules.proofs.declaration.declares_array.Goals as goal

pub returns-in_default-2 : goal.returns-in_default-2
returns-in_default-2 c = grind (arith, common_steps)

pub returns-in_default-3 : goal.returns-in_default-3
returns-in_default-3 c = grind (arith, common_steps)

pub returns-in_default-4 : goal.returns-in_default-4
returns-in_default-4 c = grind (arith, common_steps)

pub returns-in_default : goal.returns-in_default
returns-in_default c = too_few c.args.definitions.now c.args.operands.now (omega arith)

pub returns-in_default-5 : goal.returns-in_default-5
returns-in_default-5 c = too_many c.args.definitions.now c.args.operands.now (omega arith)

pub returns-then-is_data : goal.returns-then-is_data
returns-then-is_data c = grind (arith, common_steps)

pub returns-else-is_data : goal.returns-else-is_data
returns-else-is_data c = grind (arith, common_steps)
