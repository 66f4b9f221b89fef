use Rattle.std.proofs.Common.{sym}
use Rattle.spv_parser.proofs.Headed.{name_no_entry}
use Rattle.spv_parser.proofs.line.look_up.Goals as goal

pub returns-in_default-entry : goal.returns-in_default-entry
returns-in_default-entry c =
    name_no_entry c.args.table.now c.args.name.now c.in-Some.opcode c.in-Some.ensures (sym c.in_default-entry.ensures)
