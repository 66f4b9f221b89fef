use Rattle.std.proofs.Common.{◌≡◌, map, drop}
use Rattle.spv_layout.specs.Row.{row_in}
use Rattle.spv_layout.specs.inner.Row.{plain_row}
use Rattle.spv_layout.proofs.rows.row_among.Given as goal

abbrev pub invariant-loop-row : goal.invariant-loop-row
invariant-loop-row l = row_in (map plain_row (drop l.row-index l.rows)) l.opcode ≡ row_in (map plain_row l.rows) l.opcode
