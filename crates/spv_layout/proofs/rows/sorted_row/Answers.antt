use Rattle.std.proofs.Common.{◌∙◌, ap}
use Rattle.std.proofs.lemmas.List.{take-append-drop}
use Rattle.spv_layout.specs.declared.rows.TheConstants.{NUMBERS, NUMBERED, OWN}
use Rattle.spv_layout.specs.Rows.{rows}
use Rattle.spv_layout.specs.inner.Row.{listed}
use Rattle.spv_layout.proofs.Numbers.{listed_row}
use Rattle.spv_layout.proofs.rows.sorted_row.Goals as goal

pub returns-clause-row : goal.returns-clause-row
returns-clause-row c =
    rw (c.own_rows.ensures.rows, c.opencl_rows.ensures.rows, c.own_rows.ensures.count) at c.row_listed.ensures.row ∙
    (ap (λ rs. listed NUMBERS rs NUMBERED c.args.opcode) (take-append-drop OWN rows) ∙ listed_row c.args.opcode)
