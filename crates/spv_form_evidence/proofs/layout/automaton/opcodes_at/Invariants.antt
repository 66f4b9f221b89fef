use Rattle.std.proofs.Common.{◌≡◌}
use Rattle.spv_form_evidence.specs.layout.inner.Automaton.{followers}
use Rattle.spv_form_evidence.proofs.layout.automaton.opcodes_at.Given as goal

abbrev pub invariant-loop-opcode : goal.invariant-loop-opcode
invariant-loop-opcode l = l.opcodes.items ≡ followers l.profile l.state l.opcode
