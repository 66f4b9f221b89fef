use Rattle.std.proofs.Common.{arith, refl}
use Rattle.spv_kernel_operands.specs.Seats.{lines}
use Rattle.spv_kernel_operands.specs.Scopes.{IsMisscoped}
use Rattle.spv_kernel_operands.proofs.Worked.{no_order}
use Rattle.spv_kernel_operands.proofs.laws.scope_examples.Goals as goal

pub returns-clause-high : goal.returns-clause-high
unfolding lines
returns-clause-high c = IsMisscoped.scope 0 5 record { seat = (0, omega arith, refl); value = refl } (omega arith)

pub returns-clause-two_orders : goal.returns-clause-two_orders
unfolding lines
returns-clause-two_orders c = IsMisscoped.order 1 6 record { seat = (0, omega arith, refl); value = refl } no_order

pub returns-clause-group : goal.returns-clause-group
unfolding lines
returns-clause-group c = IsMisscoped.group 2 0 refl refl record { seat = (0, omega arith, refl); value = refl }
    (λ e. absurd (omega (arith, e))) (λ e. absurd (omega (arith, e)))
