use Rattle.spv_table.specs.inner.Rows.{told}
use Rattle.spv_table.proofs.Slots.{bears_by}
use Rattle.spv_table.proofs.named_rows.bears.Goals as goal

pub returns-in-Some : goal.returns-in-Some
returns-in-Some g c =
    bears_by (told c.args.text.now g.R.NamedRow.span) c.args.rows.now c.args.place c.in-Some.row.now c.args.name.now c.eq.result c.in-Some.ensures.lookup.3.0 c.in-Some.ensures.lookup.1 (rw (c.of.ensures, c.span.ensures) at c.eq.ensures)
