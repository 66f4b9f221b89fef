use Rattle.std.proofs.Common.{◌≡◌, drop, map}
use Rattle.spv_kernel_operands.specs.Seats.{scopes_in}
use Rattle.spv_kernel_operands.specs.inner.Seats.{line}
use Rattle.spv_kernel_operands.proofs.seats.scopes_in.Given as goal

abbrev pub invariant-loop-entry : goal.invariant-loop-entry
invariant-loop-entry l =
    scopes_in (map line l.entries) l.opcode ≡ scopes_in (map line (drop l.entry-index l.entries)) l.opcode
