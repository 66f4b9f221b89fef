use Rattle.spv_kernel_operands.proofs.Literals.{rising_from}
use Rattle.spv_kernel_operands.proofs.switch.sort.Goals as goal

pub returns-clause-order : goal.returns-clause-order
returns-clause-order c = rising_from c.sort_unstable.new.self c.sort_unstable.ensures.sorted
