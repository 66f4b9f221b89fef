use Rattle.spv_streams.proofs.Replies.{long_known, reply_known, why_known}
use Rattle.spv_streams.proofs.runs.reply_on.Goals as goal

pub returns-in-Some-clause-does : goal.returns-in-Some-clause-does
returns-in-Some-clause-does g c =
    reply_known c.args.command.now c.args.table.now _ c.in-Some.bytes c.reply_to.result
    (rw c.in-Some.is at c.in_ok-content.ensures.known) c.reply_to.ensures.does

pub returns-in-Some-clause-why : goal.returns-in-Some-clause-why
returns-in-Some-clause-why g c =
    why_known c.args.command.now c.args.table.now _ c.in-Some.bytes c.reply_to.result
    (rw c.in-Some.is at c.in_ok-content.ensures.known) c.reply_to.ensures.why

pub returns-in-None-clause-does : goal.returns-in-None-clause-does
returns-in-None-clause-does g c =
    long_known c.args.command.now c.args.table.now _ c.too_long.result
    (rw c.in-None.is at c.in_ok-content.ensures.known) c.too_long.ensures.gives
