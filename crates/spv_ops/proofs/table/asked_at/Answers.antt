use Rattle.std.proofs.Common.{◌∙◌, ap, sym, arith}
use Rattle.spv_ops.specs.inner.Table.{asked_by}
use Rattle.spv_ops.proofs.Parting.{first_part, further_part, last_part}
use Rattle.spv_ops.proofs.table.asked_at.Goals as goal

pub returns-then-number-lt-FURTHER_FROM : goal.returns-then-number-lt-FURTHER_FROM
returns-then-number-lt-FURTHER_FROM c =
    let low = c.if-number-lt-FURTHER_FROM.true in
    c.asked_first.ensures ∙ ap asked_by (sym (first_part c.args.number (omega (arith, low))))

pub returns-then-number-lt-OBJECTS_FROM : goal.returns-then-number-lt-OBJECTS_FROM
returns-then-number-lt-OBJECTS_FROM c =
    let past = c.if-number-lt-FURTHER_FROM.false in
    let low = c.if-number-lt-OBJECTS_FROM.true in
    c.asked_further.ensures ∙ ap asked_by (sym (further_part c.args.number (omega (arith, past)) (omega (arith, low))))

pub returns-else-number-lt-OBJECTS_FROM : goal.returns-else-number-lt-OBJECTS_FROM
returns-else-number-lt-OBJECTS_FROM c =
    let past = c.if-number-lt-OBJECTS_FROM.false in
    c.asked_object.ensures ∙ ap asked_by (sym (last_part c.args.number (omega (arith, past))))
