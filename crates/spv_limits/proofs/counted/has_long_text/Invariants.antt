use Rattle.std.proofs.Common.{◌↔◌, drop}
use Rattle.spv_module.specs.Module.{plain_operands}
use Rattle.spv_limits.specs.inner.Alone.{AreLong}
use Rattle.spv_limits.proofs.counted.has_long_text.Given as goal

abbrev pub invariant-loop-operand : goal.invariant-loop-operand
invariant-loop-operand l =
    AreLong (plain_operands (drop l.operand-index l.operands)) ↔ AreLong (plain_operands l.operands)
