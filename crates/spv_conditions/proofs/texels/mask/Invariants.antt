use Rattle.std.proofs.Common.{◌≡◌, drop}
use Rattle.spv_module.specs.Module.{plain_operands}
use Rattle.spv_conditions.specs.Texels.{mask_in}
use Rattle.spv_conditions.proofs.texels.mask.Given as goal

abbrev pub invariant-loop-operand : goal.invariant-loop-operand
invariant-loop-operand l = mask_in (plain_operands l.operands) ≡ mask_in (plain_operands (drop l.operand-index l.operands))
