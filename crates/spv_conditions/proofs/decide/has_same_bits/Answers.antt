use Rattle.std.proofs.Common.{arith}
use Rattle.std.proofs.lemmas.Grind.{common_steps}
use Rattle.spv_conditions.proofs.decide.has_same_bits.Goals as goal

pub returns-in-Some-Pointer-Some-Pointer : goal.returns-in-Some-Pointer-Some-Pointer
returns-in-Some-Pointer-Some-Pointer c = grind (arith, common_steps)

pub returns-in-Some-Some : goal.returns-in-Some-Some
returns-in-Some-Some c = grind (arith, common_steps)
