use Rattle.spv_explain.proofs.Tellings.{image_told, refused_told, refuses}
use Rattle.spv_explain.proofs.stream.octets_told.Goals as goal

pub returns-in-Err-clause-told : goal.returns-in-Err-clause-told
returns-in-Err-clause-told c =
    refused_told c.one_refusal.ensures.once c.one_refusal.ensures.never c.args.detail c.args.table.now c.args.reach
    c.args.octets.items c.in-Err.code _
    (refuses c.in-Err.code c.args.octets.items c.in-Err.ensures.refused) c.refusal.ensures.refused
    (rw (c.front_of-front.ensures, c.deref.ensures.value) at c.refusal.ensures.lines)

pub returns-in-Ok-told_by-clause-told : goal.returns-in-Ok-told_by-clause-told
returns-in-Ok-told_by-clause-told c =
    image_told c.args.detail c.args.table.now c.args.reach c.args.octets.items _ c.in-Ok.field-0-1 _
    c.in-Ok.ensures.gives c.in-Ok-told_by.ensures
