use Rattle.std.proofs.Common.{◌≡◌, Some, sym}
use Rattle.spv_layout.specs.Rows.{row_of}
use Rattle.spv_layout.specs.inner.Row.{plain_row}
use Rattle.spv_standard.proofs.silent.silent_of.Goals as goal

pub returns-in-Some : goal.returns-in-Some
returns-in-Some c = λ G i f e.
    let k : row_of i.opcode ≡ Some (plain_row c.in-Some.row.now) = rw e (sym c.in-Some.ensures.row) in
    c.silent_in.ensures G i f k
