use Rattle.std.proofs.Common.{◌≡◌, ◌++◌, drop, flat_map, string_bytes}
use Rattle.spv_pictures.specs.Blocks.{begins_block, begins_part, part_text}
use Rattle.spv_pictures.specs.Function.{groups}
use Rattle.spv_pictures.specs.inner.Rows.{plain_rows}
use Rattle.spv_pictures.proofs.blocks.push_parts.Given as goal

abbrev pub invariant-loop-at : goal.invariant-loop-at
invariant-loop-at l =
    string_bytes l.out ++ flat_map (part_text l.marks.finding)
    (groups begins_part begins_block (plain_rows (drop l.at l.rows)))
    ≡ string_bytes l.fn.out ++ flat_map (part_text l.marks.finding)
    (groups begins_part begins_block (plain_rows l.rows))
