use Rattle.std.proofs.Common.{◌↔◌, ℕ}
use Rattle.spv_module.specs.Module.{plain_operands}
use Rattle.spv_interfaces.specs.inner.Entries.{NamesBefore}
use Rattle.spv_interfaces.specs.inner.Marks.{HasBit, HasMarked}
use Rattle.spv_interfaces.proofs.lacking.bits_in.Given as goal

abbrev pub invariant-loop-operand : goal.invariant-loop-operand
invariant-loop-operand l = (k : ℕ)
    → HasBit l.bits k ↔ HasMarked (NamesBefore l.definitions (plain_operands l.interface) l.operand-index) l.words k
