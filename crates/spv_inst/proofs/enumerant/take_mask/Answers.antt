use Rattle.std.proofs.Common.{sym}
use Rattle.spv_table.specs.Table.{kind_of}
use Rattle.spv_inst.specs.Reading.{enumerants_at}
use Rattle.spv_inst.proofs.Enumerants.{mask_taken, mask_refused}
use Rattle.spv_inst.proofs.enumerant.take_mask.Goals as goal

pub returns-then-not-knows_bits-clause-refused : goal.returns-then-not-knows_bits-clause-refused
returns-then-not-knows_bits-clause-refused c = λ us.
    rw (c.new.ensures.rule, c.new.ensures.word)
    (mask_refused (enumerants_at (kind_of c.args.table.now c.args.kind)) c.args.mask us
    (sym c.if-not-knows_bits.ensures))

pub returns-clause-taken : goal.returns-clause-taken
returns-clause-taken c = mask_taken c.args.table.now c.args.kind c.args.mask (sym c.if-not-knows_bits.ensures)
