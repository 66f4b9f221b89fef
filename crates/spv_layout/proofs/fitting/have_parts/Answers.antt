use Rattle.std.proofs.Common.{◌<◌, sym, length, map, arith}
use Rattle.std.proofs.lemmas.List.{length-map}
use Rattle.spv_module.specs.Module.{plain_operand}
use Rattle.spv_layout.specs.inner.Row.{plain_row}
use Rattle.spv_layout.proofs.Tested.{row_short}
use Rattle.spv_layout.proofs.fitting.have_parts.Goals as goal

pub returns-then-operands-fixed : goal.returns-then-operands-fixed
returns-then-operands-fixed c =
    let l = length-map c.args.operands.now plain_operand in
    let h : length (map plain_operand c.args.operands.now) < length (plain_row c.args.row.now).fixed = omega arith in
    sym (row_short c.args.kinds.now (plain_row c.args.row.now) (map plain_operand c.args.operands.now) h)
