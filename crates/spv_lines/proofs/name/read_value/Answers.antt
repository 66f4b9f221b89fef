use Rattle.std.proofs.Common.{◌∙◌, sym, arith}
use Rattle.spv_lines.proofs.Named.{value_unknown, value_refused}
use Rattle.spv_lines.proofs.name.read_value.Goals as goal

pub returns-else-knows : goal.returns-else-knows
returns-else-knows c =
    λ hex. value_unknown c.args.table.now hex c.args.kind c.in-Ok.value c.args.token.now (omega arith) c.in-Ok.ensures
    (sym c.if-knows.false ∙ c.knows.ensures)

pub returns-in-Err : goal.returns-in-Err
returns-in-Err c = λ hex. value_refused c.args.table.now hex c.args.kind c.args.token.now c.in-Err.why c.in-Err.ensures
