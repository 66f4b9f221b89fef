use Rattle.std.proofs.Common.{◌≡◌, ◌≤◌, ◌+◌, ◌-◌, drop, length}
use Rattle.std.specs.List.{position_or_len}
use Rattle.spv_pictures.specs.Blocks.{begins_block}
use Rattle.spv_pictures.specs.inner.Rows.{plain_row}
use Rattle.spv_pictures.specs.declared.rows.Row.{Row}
use Rattle.spv_pictures.proofs.rows.count_to_block.Given as goal

abbrev pub invariant-loop-count : goal.invariant-loop-count
invariant-loop-count l =
    (l.count ≤ length l.rows) × (position_or_len
    (λ (r : Row). begins_block (plain_row r)) l.rows ≡ l.count + position_or_len
    (λ (r : Row). begins_block (plain_row r)) (drop l.count l.rows))

abbrev pub decreases-loop-count : goal.decreases-loop-count
decreases-loop-count l = length l.rows - l.count
