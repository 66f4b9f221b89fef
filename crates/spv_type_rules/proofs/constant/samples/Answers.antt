use Rattle.std.proofs.Common.{arith}
use Rattle.std.proofs.lemmas.Grind.{common_steps}
use Rattle.spv_type_rules.proofs.constant.samples.Goals as goal

pub returns-then-normalized-le1 : goal.returns-then-normalized-le1
returns-then-normalized-le1 c = grind (arith, common_steps)

pub returns-else-normalized-le1 : goal.returns-else-normalized-le1
returns-else-normalized-le1 c = grind (arith, common_steps)

pub returns-in_default : goal.returns-in_default
returns-in_default c = grind (arith, common_steps)

pub returns-in_default-2 : goal.returns-in_default-2
returns-in_default-2 c = grind (arith, common_steps)

pub returns-in_default-3 : goal.returns-in_default-3
returns-in_default-3 c = grind (arith, common_steps)

pub returns-in_default-4 : goal.returns-in_default-4
returns-in_default-4 c = grind (arith, common_steps)

pub returns-in_default-5 : goal.returns-in_default-5
returns-in_default-5 c = grind (arith, common_steps)
