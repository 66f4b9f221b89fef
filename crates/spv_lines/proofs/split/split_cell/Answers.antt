use Rattle.spv_lines.proofs.Splits.{first_mark, no_mark, cells_at, one_cell}
use Rattle.spv_lines.proofs.split.split_cell.Goals as goal

pub returns-in-Some : goal.returns-in-Some
returns-in-Some c =
    let m = rw c.as_bytes.ensures.value at c.in-Some.ensures in
    let e = cells_at c.args.text.now c.in-Some.at (first_mark 124 c.args.text.now c.in-Some.at m) in
    rw (c.split_around.ensures.front, c.split_around.ensures.back) e

pub returns-in-None : goal.returns-in-None
returns-in-None c =
    let m = rw c.as_bytes.ensures.value at c.in-None.ensures in
    one_cell c.args.text.now (no_mark 124 c.args.text.now m)
