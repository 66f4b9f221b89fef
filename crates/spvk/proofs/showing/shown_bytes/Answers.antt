use Rattle.spvk.proofs.showing.shown_bytes.Goals as goal

pub returns-in-Ok : goal.returns-in-Ok
returns-in-Ok c = c.shown_image.ensures c.args.bytes.now c.in-Ok.field-0-1 c.in-Ok.ensures.gives

pub returns-in-Err : goal.returns-in-Err
returns-in-Err c = c.refused.ensures c.args.bytes.now c.args.table.now c.args.reach c.in-Err.ensures.refuses
