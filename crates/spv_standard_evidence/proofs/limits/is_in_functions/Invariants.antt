use Rattle.std.proofs.Common.{◌<◌, ℕ}
use Rattle.spv_module.specs.declared.opcode.TheConstants as opcode
use Rattle.spv_ids.specs.Order.{HasOpcode}
use Rattle.spv_standard_evidence.proofs.limits.is_in_functions.Given as goal

abbrev pub invariant-loop-before : goal.invariant-loop-before
invariant-loop-before l = (f : ℕ) → f < l.before → ¬ (HasOpcode l.definitions f opcode.FUNCTION)
