use Rattle.std.proofs.Common.{◌≡◌, take}
use Rattle.spv_module.specs.Module.{plain_operands}
use Rattle.spv_kernel_operands.specs.Switch.{literals_of}
use Rattle.spv_kernel_operands.proofs.switch.literals_of.Given as goal

abbrev pub invariant-loop-operand : goal.invariant-loop-operand
invariant-loop-operand l = l.literals.items ≡ literals_of (plain_operands (take l.operand-index l.operands))
