use Rattle.std.proofs.Common.{◌≡◌, drop, map}
use Rattle.spv_kernel_operands.specs.Seats.{scopes_in, semantics_in}
use Rattle.spv_kernel_operands.specs.inner.Seats.{line}
use Rattle.spv_kernel_operands.proofs.seats.is_absent.Given as goal

abbrev pub invariant-loop-entry : goal.invariant-loop-entry
invariant-loop-entry l = record {
  scopes : scopes_in (map line l.entries) l.opcode ≡ scopes_in (map line (drop l.entry-index l.entries)) l.opcode;
  semantics : semantics_in (map line l.entries) l.opcode
      ≡ semantics_in (map line (drop l.entry-index l.entries)) l.opcode;
}
