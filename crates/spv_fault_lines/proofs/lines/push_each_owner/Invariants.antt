use Rattle.std.proofs.Common.{◌≡◌, ◌++◌, string_bytes, flat_map, drop}
use Rattle.spv_module.specs.Module.{plain_insts}
use Rattle.spv_fault_lines.specs.Lines.{owner_part}
use Rattle.spv_fault_lines.proofs.lines.push_each_owner.Given as goal

abbrev pub invariant-loop-operand : goal.invariant-loop-operand
invariant-loop-operand l =
    string_bytes l.out ++ flat_map (owner_part l.fn.about.table.now (plain_insts l.fn.about.«module».now) l.fn.inst)
    (drop l.operand-index l.fn.operands)
    ≡ string_bytes l.initial.out ++ flat_map
    (owner_part l.fn.about.table.now (plain_insts l.fn.about.«module».now) l.fn.inst) l.fn.operands
