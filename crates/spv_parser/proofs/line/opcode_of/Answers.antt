use Rattle.std.proofs.Common.{arith}
use Rattle.spv_table.specs.Lookups.{opcode_named}
use Rattle.spv_parser.proofs.Headed.{opcode_by_name, opcode_by_number, opcode_too_large, opcode_none}
use Rattle.spv_parser.proofs.line.opcode_of.Goals as goal

pub returns-in-Some : goal.returns-in-Some
returns-in-Some c = opcode_by_name (opcode_named c.args.table.now.entries) c.args.name.now c.in-Some.opcode
    (omega arith) c.in-Some.ensures

pub returns-then-number-lt65536 : goal.returns-then-number-lt65536
returns-then-number-lt65536 c =
    opcode_by_number (opcode_named c.args.table.now.entries) c.args.name.now c.in-Ok.number c.if-number-lt65536.true
    (rw c.as_bytes.ensures.value at c.in-Ok.ensures)

pub returns-else-number-lt65536 : goal.returns-else-number-lt65536
returns-else-number-lt65536 c =
    opcode_too_large (opcode_named c.args.table.now.entries) c.args.name.now c.in-Ok.number c.if-number-lt65536.false
    c.in-None.ensures (rw c.as_bytes.ensures.value at c.in-Ok.ensures)

pub returns-in-Err : goal.returns-in-Err
returns-in-Err c =
    let a = rw c.as_bytes.ensures.value at c.read_behind.ensures in
    let b = rw c.in-Err.is at a in
    opcode_none (opcode_named c.args.table.now.entries) c.args.name.now c.in-Err.field-0 c.in-None.ensures b
