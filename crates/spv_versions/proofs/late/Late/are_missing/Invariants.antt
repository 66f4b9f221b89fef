use Rattle.std.proofs.Common.{◌↔◌, drop}
use Rattle.spv_module.specs.Module.{plain_operands}
use Rattle.spv_versions.specs.inner.Late.{AreFloored}
use Rattle.spv_versions.specs.inner.Told.{AreHit}
use Rattle.spv_versions.proofs.late.Late.are_missing.Given as goal

abbrev pub invariant-loop-operand : goal.invariant-loop-operand
invariant-loop-operand l = AreFloored l.self
    → AreHit l.self.missing.lines l.self.kinds.numbers (plain_operands (drop l.operand-index l.operands))
    ↔ AreHit l.self.missing.lines l.self.kinds.numbers (plain_operands l.operands)
