use Rattle.std.proofs.Common.{arith}
use Rattle.std.proofs.lemmas.Grind.{common_steps}
use Rattle.spv_capabilities.proofs.entry.is_sound_entry.Goals as goal

pub bounds-0 : goal.bounds-0
bounds-0 c = grind (arith, common_steps)

pub bounds-1 : goal.bounds-1
bounds-1 c = grind (arith, common_steps)

pub bounds-operands-0 : goal.bounds-operands-0
bounds-operands-0 c = grind (arith, common_steps)

pub bounds-operands-1 : goal.bounds-operands-1
bounds-operands-1 c = grind (arith, common_steps)

pub is_kernel_function-requires : goal.is_kernel_function-requires
is_kernel_function-requires c = grind (arith, common_steps)

pub returns-then-model-eq-KERNEL : goal.returns-then-model-eq-KERNEL
returns-then-model-eq-KERNEL c = grind (arith, common_steps)

pub returns-else-model-eq-KERNEL : goal.returns-else-model-eq-KERNEL
returns-else-model-eq-KERNEL c = grind (arith, common_steps)

pub returns-in_default : goal.returns-in_default
returns-in_default c = grind (arith, common_steps)

pub returns-in_default-3 : goal.returns-in_default-3
returns-in_default-3 c = grind (arith, common_steps)
