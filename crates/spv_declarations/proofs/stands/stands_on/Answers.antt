use Rattle.std.proofs.Common.{sym}
use Rattle.spv_module.specs.Module.{plain_inst}
use Rattle.spv_declarations.specs.Table.{lines}
use Rattle.spv_declarations.proofs.Lines.{stands_by, stands_nowhere, stands_on_line}
use Rattle.spv_declarations.proofs.stands.stands_on.Goals as goal

pub returns-then-is_on_some : goal.returns-then-is_on_some
unfolding lines
returns-then-is_on_some c =
    let is = c.args.definitions.now in
    let i = plain_inst c.in-Some.inst.now in
    stands_on_line is c.args.d c.args.x i c.is_on_some.result (sym c.in-Some.ensures) c.is_on_some.ensures
    c.if-is_on_some.true

pub returns-else-is_on_some : goal.returns-else-is_on_some
unfolding lines
returns-else-is_on_some c =
    let is = c.args.definitions.now in
    let i = plain_inst c.in-Some.inst.now in
    stands_by is c.args.d c.args.x i c.is_listed.result c.is_on_some.result c.is_listed.ensures
    (sym c.in-Some.ensures) c.is_on_some.ensures c.if-is_on_some.false

pub returns-in-None : goal.returns-in-None
returns-in-None c = stands_nowhere c.args.definitions.now c.args.d c.args.x c.is_listed-in-None.result c.is_listed-in-None.ensures
    (sym c.in-None.ensures)
