use Rattle.spvk.proofs.Judgments.{refused_bytes}
use Rattle.spvk.proofs.judging.judge.Goals as goal

pub returns-in-Ok : goal.returns-in-Ok
returns-in-Ok c = c.judged.ensures c.args.bytes.now c.in-Ok.field-0-1 c.in-Ok.ensures.gives

pub returns-in-Err : goal.returns-in-Err
returns-in-Err c = rw c.refusal.ensures (refused_bytes c.args.table.now c.args.reach c.args.bytes.now c.in-Err.code
    c.in-Err.ensures.refuses)
