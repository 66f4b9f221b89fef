use Rattle.std.proofs.Common.{◌≡◌, ◌++◌, drop, flat_map, string_bytes}
use Rattle.spv_pictures.specs.Blocks.{Row, is_fault, marked_row}
use Rattle.spv_pictures.specs.inner.Rows.{plain_rows}
use Rattle.spv_pictures.proofs.blocks.push_rows.Given as goal

abbrev pub invariant-loop-row : goal.invariant-loop-row
invariant-loop-row l =
    string_bytes l.out ++ flat_map (λ (r : Row). marked_row (is_fault l.marks.finding r.number) r)
    (plain_rows (drop l.row-index l.part))
    ≡ string_bytes l.fn.out ++ flat_map (λ (r : Row). marked_row (is_fault l.marks.finding r.number) r)
    (plain_rows l.part)
