use Rattle.std.proofs.Common.{sym, subst}
use Rattle.spv_module.specs.declared.operand.Operand.{Operand}
use Rattle.spv_module.specs.Module.{plain_operand}
use Rattle.spv_limits.specs.inner.Counting.{IsOperandDepth}
use Rattle.spv_limits.proofs.Deepest.{operand_none, operand_some}
use Rattle.spv_limits.proofs.depths.operand_depth.Goals as goal

pub returns-in-Some : goal.returns-in-Some
returns-in-Some c =
    subst (λ (o : Operand). IsOperandDepth c.args.definitions.now c.args.depths.now (plain_operand o) c.kept_at.result)
    (sym c.in-Id.is)
    (operand_some c.args.definitions.now c.args.depths.now c.in-Id.id c.in-Some.number c.kept_at.result
    c.in-Some.ensures c.kept_at.ensures)

pub returns-in-None : goal.returns-in-None
returns-in-None c =
    subst (λ (o : Operand). IsOperandDepth c.args.definitions.now c.args.depths.now (plain_operand o) 0) (sym c.in-Id.is)
    (operand_none c.args.definitions.now c.args.depths.now c.in-Id.id c.in-None.ensures)
