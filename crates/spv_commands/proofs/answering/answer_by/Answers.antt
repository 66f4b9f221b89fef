use Rattle.spv_commands.proofs.Answerings.{answers_bytes, answers_unread}
use Rattle.spv_commands.proofs.answering.answer_by.Goals as goal

pub returns-in-Ok : goal.returns-in-Ok
returns-in-Ok c = λ text given.
    rw c.in-Ok.is (answers_bytes c.args.command.now text c.args.table.now c.in-Ok.bytes.items _ given
    c.reply_to.ensures.does c.reply_to.ensures.why)

pub returns-in-Err : goal.returns-in-Err
returns-in-Err c = λ text given. rw (c.in-Err.is, c.file_trouble.ensures)
    (answers_unread c.args.command.now text c.args.table.now c.in-Err.trouble given)
