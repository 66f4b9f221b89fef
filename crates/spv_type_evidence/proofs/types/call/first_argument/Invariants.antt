use Rattle.std.proofs.Common.{ℕ, ◌<◌}
use Rattle.spv_module.specs.Module.{plain_operands}
use Rattle.spv_type_evidence.specs.types.inner.Differences.{AreSame}
use Rattle.spv_type_evidence.proofs.types.call.first_argument.Given as goal

abbrev pub invariant-loop-number : goal.invariant-loop-number
invariant-loop-number l = (k : ℕ) → k < l.number
    → AreSame l.definitions (plain_operands l.parameters) (plain_operands l.arguments) k
