use denote.Shadow.{shadow}
use denote.Text.{Utf8}
use Rattle.std.proofs.Common.{◌≡◌, ◌+◌, ◌++◌, drop, map}
use Rattle.spv_module.specs.Module.{plain_inst}
use Rattle.spv_lines.specs.Text.{lines_of}
use Rattle.spv_pictures.specs.Blocks.{rows_from}
use Rattle.spv_pictures.specs.inner.Rows.{plain_rows}
use Rattle.spv_pictures.proofs.rows.rows_of.Given as goal

abbrev pub invariant-loop-at : goal.invariant-loop-at
invariant-loop-at l =
    shadow (Utf8 l.rest) × (plain_rows l.rows.items
    ++ rows_from (l.first + l.at) (map plain_inst (drop l.at l.insts)) (lines_of l.rest) ≡ rows_from l.first
    (map plain_inst l.insts) (lines_of l.shown))
