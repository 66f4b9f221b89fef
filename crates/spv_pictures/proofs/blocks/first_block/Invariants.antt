use Rattle.std.proofs.Common.{◌≡◌, drop}
use Rattle.std.specs.List.{find}
use Rattle.spv_pictures.specs.Blocks.{begins_block}
use Rattle.spv_pictures.specs.inner.Rows.{plain_rows}
use Rattle.spv_pictures.proofs.blocks.first_block.Given as goal

abbrev pub invariant-loop-row : goal.invariant-loop-row
invariant-loop-row l = find begins_block (plain_rows l.rows) ≡ find begins_block (plain_rows (drop l.row-index l.rows))
