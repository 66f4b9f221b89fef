use Rattle.std.proofs.Common.{◌≡◌, drop}
use Rattle.spv_declarations.specs.Table.{is_among}
use Rattle.spv_declarations.proofs.table.is_opcode_among.Given as goal

abbrev pub invariant-loop-range : goal.invariant-loop-range
invariant-loop-range l = is_among l.ranges l.number ≡ is_among (drop l.range-index l.ranges) l.number
