use Rattle.std.proofs.Common.{subst}
use Rattle.spv_module.specs.Module.{plain_operands}
use Rattle.spv_std_types.specs.Condition.{Holds}
use Rattle.spv_std_types.specs.inner.Failing.{IsFirstIn}
use Rattle.spv_std_types.proofs.Telling.{of_call}
use Rattle.spv_std_types.proofs.mistyped.failing.Goals as goal

pub returns-then-is_std : goal.returns-then-is_std
returns-then-is_std c = of_call c.args.definitions.now c.args.r c.args.set c.args.number
    (plain_operands c.args.behind.now) _ (c.is_std.ensures.0 c.if-is_std.true)
    (subst (λ qs. IsFirstIn (Holds c.args.definitions.now c.args.r (plain_operands c.args.behind.now)) qs c.first_failing.result)
    c.conditions_of.ensures c.first_failing.ensures)

pub returns-else-is_std : goal.returns-else-is_std
returns-else-is_std c = λ a m. let on = c.is_std.ensures.1 m.0 in let off = c.if-is_std.false in cc
