use Rattle.std.proofs.Common.{◌≡◌, ◌++◌, flat_map, drop}
use Rattle.spv_fault_json.specs.Members.{coming_token}
use Rattle.spv_fault_json.proofs.arrays.push_opcodes.Given as goal

abbrev pub invariant-loop-opcode : goal.invariant-loop-opcode
invariant-loop-opcode l =
    l.out ++ flat_map (coming_token l.fn.table) (drop l.opcode-index l.fn.opcodes) ≡ l.initial.out
    ++ flat_map (coming_token l.fn.table) l.fn.opcodes
