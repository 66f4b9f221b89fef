use Rattle.std.proofs.Common.{◌≡◌, ◌++◌, string_bytes, flat_map, drop}
use Rattle.spv_fault_lines.specs.Lines.{may_come_part}
use Rattle.spv_fault_lines.proofs.parts.push_opcodes.Given as goal

abbrev pub invariant-loop-opcode : goal.invariant-loop-opcode
invariant-loop-opcode l =
    string_bytes l.out ++ flat_map (may_come_part l.fn.table) (drop l.opcode-index l.fn.opcodes)
    ≡ string_bytes l.initial.out ++ flat_map (may_come_part l.fn.table) l.fn.opcodes
