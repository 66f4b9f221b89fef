use Rattle.std.proofs.Common.{arith}
use Rattle.std.proofs.lemmas.Grind.{common_steps}
use Rattle.spv_type_rules.proofs.declaration.declares_vector.Goals as goal

pub returns-in_default-form : goal.returns-in_default-form
returns-in_default-form c = grind (arith, common_steps)

pub returns-in_default-form-2 : goal.returns-in_default-form-2
returns-in_default-form-2 c = grind (arith, common_steps)

pub returns-in_default : goal.returns-in_default
returns-in_default c = grind (arith, common_steps)

pub returns-in_default-2 : goal.returns-in_default-2
returns-in_default-2 c = grind (arith, common_steps)

pub returns-in_default-3 : goal.returns-in_default-3
returns-in_default-3 c = grind (arith, common_steps)

pub returns-in_default-4 : goal.returns-in_default-4
returns-in_default-4 c = grind (arith, common_steps)

pub returns-in_default-5 : goal.returns-in_default-5
returns-in_default-5 c = grind (arith, common_steps)

pub returns-in-Some-Scalar : goal.returns-in-Some-Scalar
returns-in-Some-Scalar c = grind (arith, common_steps)
