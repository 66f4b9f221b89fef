use Rattle.std.proofs.Common.{◌∙◌, sym, arith}
use Rattle.spv_lines.proofs.Named.{mask_unknown, mask_refused}
use Rattle.spv_lines.proofs.name.read_mask.Goals as goal

pub returns-else-knows_bits : goal.returns-else-knows_bits
returns-else-knows_bits c =
    λ hex. mask_unknown c.args.table.now hex c.args.kind c.in-Ok.value c.args.token.now (omega arith) c.in-Ok.ensures
    (sym c.if-knows_bits.false ∙ c.knows_bits.ensures)

pub returns-in-Err : goal.returns-in-Err
returns-in-Err c = λ hex. mask_refused c.args.table.now hex c.args.kind c.args.token.now c.in-Err.why c.in-Err.ensures
