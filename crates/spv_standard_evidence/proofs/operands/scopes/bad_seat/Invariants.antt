use Rattle.std.proofs.Common.{◌<◌, ℕ, IsSomeAnd, get_or}
use Rattle.spv_module.specs.Module.{plain_operands}
use Rattle.spv_kernel_operands.specs.Value.{value_at}
use Rattle.spv_standard_evidence.specs.inner.Operands.{IsBad}
use Rattle.spv_standard_evidence.proofs.operands.scopes.bad_seat.Given as goal

abbrev pub invariant-loop-seat : goal.invariant-loop-seat
invariant-loop-seat l = (k : ℕ) → k < l.seat-index
    → ¬ (IsSomeAnd (value_at l.definitions (plain_operands l.operands) (get_or l.seats k 0)) (IsBad l.are_scopes))
