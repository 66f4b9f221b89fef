use Rattle.spvk.specs.Answer.{told, unanswered}
use Rattle.spvk.proofs.checking.answer_of.Goals as goal

pub returns-in-Ok : goal.returns-in-Ok
returns-in-Ok c = told c.numbers-code.result
    (record { judgment = c.in-Ok.judgment; line = c.in-Ok.ensures; told = c.numbers-code.ensures })

pub returns-in-Err : goal.returns-in-Err
returns-in-Err c = rw c.alone.ensures unanswered
