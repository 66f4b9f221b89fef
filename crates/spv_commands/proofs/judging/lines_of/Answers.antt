use Rattle.spv_commands.proofs.Carried.{told_behind}
use Rattle.spv_commands.proofs.judging.lines_of.Goals as goal

pub returns-clause-done : goal.returns-clause-done
returns-clause-done c =
    told_behind c.args.how.task c.args.table.now c.args.reach c.args.bytes.items c.in_ok-reply.reply
    _ _ c.in_ok-valid.valid c.in_ok-reply.ensures.gives c.in_ok-valid.ensures.added.0
    (rw c.in_ok-text.ensures.text at c.in_ok-valid.ensures.added.1)
