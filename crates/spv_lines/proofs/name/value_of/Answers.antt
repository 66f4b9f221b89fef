use Rattle.spv_lines.specs.Name.{Names}
use Rattle.spv_lines.specs.inner.Answer.{names_in}
use Rattle.spv_lines.proofs.Named.{value_by_number}
use Rattle.spv_lines.proofs.name.value_of.Goals as goal

pub returns-in-Some : goal.returns-in-Some
returns-in-Some c = Names.named c.args.text.now c.in-Some.ensures

pub returns-in-None : goal.returns-in-None
returns-in-None c =
    let b = rw c.as_bytes.ensures.value at c.read_behind.ensures in
    value_by_number (names_in c.args.table.now c.args.kind) c.args.text.now c.read_behind.result c.in-None.ensures b
