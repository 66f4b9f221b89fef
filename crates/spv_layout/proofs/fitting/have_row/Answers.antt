use Rattle.std.proofs.Common.{◌≡◌, ◌∙◌, length, map, arith}
use Rattle.std.proofs.lemmas.List.{length-map}
use Rattle.spv_module.specs.Module.{plain_operand}
use Rattle.spv_layout.specs.inner.Row.{plain_row}
use Rattle.spv_layout.proofs.Tested.{row_exact}
use Rattle.spv_layout.proofs.fitting.have_row.Goals as goal

pub returns-then-operands-row : goal.returns-then-operands-row
returns-then-operands-row c =
    let l = length-map c.args.operands.now plain_operand in
    let e : length (map plain_operand c.args.operands.now) ≡ length (plain_row c.args.row.now).fixed = omega arith in
    c.have_fixed.ensures ∙ row_exact c.args.kinds.now (plain_row c.args.row.now) (map plain_operand c.args.operands.now) e
