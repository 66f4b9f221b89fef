use Rattle.std.proofs.Common.{◌≡◌, drop}
use Rattle.std.specs.List.{list_any}
use Rattle.spv_pictures.specs.Blocks.{Row, is_fault}
use Rattle.spv_pictures.specs.inner.Rows.{plain_rows}
use Rattle.spv_pictures.proofs.blocks.has_fault.Given as goal

abbrev pub invariant-loop-row : goal.invariant-loop-row
invariant-loop-row l =
    list_any (λ (r : Row). is_fault l.marks.finding r.number) (plain_rows l.part) ≡ list_any
    (λ (r : Row). is_fault l.marks.finding r.number) (plain_rows (drop l.row-index l.part))
