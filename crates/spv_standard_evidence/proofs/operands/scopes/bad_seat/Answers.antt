use Rattle.std.proofs.Common.{arith}
use Rattle.spv_module.specs.Module.{plain_operands}
use Rattle.spv_kernel_operands.proofs.Valued.{none_found}
use Rattle.spv_standard_evidence.specs.inner.Operands.{IsBad}
use Rattle.spv_standard_evidence.proofs.Scoped.{valued_found}
use Rattle.spv_standard_evidence.proofs.operands.scopes.bad_seat.Goals as goal

pub returns-then-is_bad : goal.returns-then-is_bad
returns-then-is_bad c =
    valued_found (IsBad c.args.are_scopes) c.args.definitions.now (plain_operands c.args.operands.now) c.args.seats.now
    c.loop-seat.seat-index c.value_at.result c.loop-seat-test.true c.value_at.ensures
    (c.is_bad.ensures.0 c.if-is_bad.true)

pub returns : goal.returns
returns c = none_found (IsBad c.args.are_scopes) c.args.definitions.now (plain_operands c.args.operands.now)
    c.args.seats.now (λ k l. c.loop-seat.invariant k (omega (arith, l)))
