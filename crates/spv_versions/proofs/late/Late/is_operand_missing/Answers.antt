use Rattle.std.proofs.Common.{◌↔◌, IsTrue, sym, subst}
use Rattle.spv_module.specs.declared.operand.Operand.{Operand}
use Rattle.spv_module.specs.Module.{plain_operand}
use Rattle.spv_versions.specs.inner.Told.{IsOperandHit}
use Rattle.spv_versions.proofs.late.Late.is_operand_missing.Goals as goal

pub returns-in-Mask : goal.returns-in-Mask
returns-in-Mask c = λ floors. subst (λ (o : Operand). IsTrue c.is_any_hit-in-Mask.result
    ↔ IsOperandHit c.args.self.now.missing.lines c.args.self.now.kinds.numbers (plain_operand o)) (sym c.in-Mask.is)
    (c.is_any_hit-in-Mask.ensures floors)
