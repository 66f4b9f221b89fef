use Rattle.std.proofs.Common.{refl, arith}
use Rattle.std.proofs.lemmas.Bool.{false≢true}
use Rattle.spv_module.specs.Module.{plain_operands}
use Rattle.spv_kernel_operands.proofs.Valued.{none_found, value_found}
use Rattle.spv_kernel_operands.proofs.scopes.has_high_scope.Goals as goal

pub returns-then-is_high : goal.returns-then-is_high
returns-then-is_high c = (
  λ _. value_found _ c.args.definitions.now (plain_operands c.args.operands.now) c.args.seats.now
      c.loop-seat.seat-index c.value_at.result c.loop-seat-test.true c.value_at.ensures
      (c.is_high.ensures.0 c.if-is_high.true),
  λ _. refl,
)

pub returns : goal.returns
returns c = (
  λ t. absurd (false≢true t),
  λ h. absurd (none_found _ c.args.definitions.now
      (plain_operands c.args.operands.now) c.args.seats.now
      (λ k l. c.loop-seat.invariant k (omega (arith, l))) h),
)
