use Rattle.std.proofs.Common.{◌≡◌, [], drop}
use Rattle.spv_fault_lines.specs.Classes.{classes_from}
use Rattle.spv_fault_lines.proofs.classes.classes_of.Given as goal

abbrev pub invariant-loop-opcode : goal.invariant-loop-opcode
invariant-loop-opcode l = classes_from l.classes.items (drop l.opcode-index l.fn.opcodes) ≡ classes_from [] l.fn.opcodes
