use Rattle.spv_lines.specs.inner.Answer.{names_in}
use Rattle.spv_lines.proofs.Named.{mask_by_names, mask_by_number}
use Rattle.spv_lines.proofs.name.mask_of.Goals as goal

pub returns-in-Some : goal.returns-in-Some
returns-in-Some c = mask_by_names (names_in c.args.table.now c.args.kind) c.args.text.now c.in-Some.mask
    c.in-Some.ensures

pub returns-in-None : goal.returns-in-None
returns-in-None c =
    let b = rw c.as_bytes.ensures.value at c.read_behind.ensures in
    mask_by_number (names_in c.args.table.now c.args.kind) c.args.text.now c.read_behind.result c.in-None.ensures b
