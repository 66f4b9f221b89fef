use Rattle.spv_lines.proofs.Splits.{first_mark, no_mark, lines_at, one_line}
use Rattle.spv_lines.proofs.split.split_line.Goals as goal

pub returns-in-Some-clause-lines : goal.returns-in-Some-clause-lines
returns-in-Some-clause-lines c =
    let m = rw c.as_bytes.ensures.value at c.in-Some.ensures in
    let e = lines_at c.args.text.now c.in-Some.at (first_mark 10 c.args.text.now c.in-Some.at m) in
    rw (c.split_around.ensures.front, c.split_around.ensures.back) e

pub returns-in-None-clause-lines : goal.returns-in-None-clause-lines
returns-in-None-clause-lines c =
    let m = rw c.as_bytes.ensures.value at c.in-None.ensures in
    one_line c.args.text.now c.requires (no_mark 10 c.args.text.now m)
