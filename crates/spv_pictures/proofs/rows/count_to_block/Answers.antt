use Rattle.std.proofs.Common.{arith, sym, ◌∙◌}
use Rattle.spv_pictures.specs.Blocks.{begins_block}
use Rattle.spv_pictures.specs.declared.rows.Row.{Row}
use Rattle.spv_pictures.specs.inner.Rows.{plain_row}
use Rattle.spv_pictures.proofs.Grouped.{position-map, position_end, position_here}
use Rattle.spv_pictures.proofs.rows.count_to_block.Goals as goal

pub returns-then-begins_block-clause-count : goal.returns-then-begins_block-clause-count
returns-then-begins_block-clause-count c =
    let rows = c.args.rows.now in
    let p = position_here (λ (r : Row). begins_block (plain_row r)) rows c.loop-count.count c.index-rows-count.result
    (omega arith) c.index-rows-count.is
    (sym c.begins_block.ensures ∙ c.if-begins_block.true) c.loop-count.invariant.1 in
    sym (position-map begins_block plain_row rows ∙ p)

pub returns-clause-count : goal.returns-clause-count
returns-clause-count c =
    let rows = c.args.rows.now in
    let p = position_end (λ (r : Row). begins_block (plain_row r)) rows c.loop-count.count
    (omega arith) c.loop-count.invariant.1 in
    sym (position-map begins_block plain_row rows ∙ p)
