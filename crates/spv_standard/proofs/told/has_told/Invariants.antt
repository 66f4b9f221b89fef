use Rattle.std.proofs.Common.{◌↔◌, drop}
use Rattle.spv_module.specs.Module.{plain_operands}
use Rattle.spv_versions.specs.inner.Late.{AreFloored}
use Rattle.spv_standard.specs.inner.Told.{AreTold}
use Rattle.spv_standard.proofs.told.has_told.Given as goal

abbrev pub invariant-loop-operand : goal.invariant-loop-operand
invariant-loop-operand l = AreFloored l.late
    → AreTold l.late (plain_operands (drop l.operand-index l.operands)) ↔ AreTold l.late (plain_operands l.operands)
