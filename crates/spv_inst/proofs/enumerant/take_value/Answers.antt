use Rattle.std.proofs.Common.{sym}
use Rattle.spv_table.specs.Table.{kind_of}
use Rattle.spv_inst.specs.Reading.{enumerants_at}
use Rattle.spv_inst.proofs.Enumerants.{value_taken, value_refused}
use Rattle.spv_inst.proofs.enumerant.take_value.Goals as goal

pub returns-then-not-knows-clause-refused : goal.returns-then-not-knows-clause-refused
returns-then-not-knows-clause-refused c = λ us.
    rw (c.new.ensures.rule, c.new.ensures.word)
    (value_refused (enumerants_at (kind_of c.args.table.now c.args.kind)) c.args.value us
    (sym c.if-not-knows.ensures))

pub returns-clause-taken : goal.returns-clause-taken
returns-clause-taken c = value_taken c.args.table.now c.args.kind c.args.value (sym c.if-not-knows.ensures)
