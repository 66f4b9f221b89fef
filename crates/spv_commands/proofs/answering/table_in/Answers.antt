use Rattle.spv_commands.proofs.Answerings.{grammar_refused}
use Rattle.spv_commands.proofs.answering.table_in.Goals as goal

pub returns-in-Err-clause-refused : goal.returns-in-Err-clause-refused
returns-in-Err-clause-refused c =
    λ command file reads. rw c.grammar_trouble.ensures
    (grammar_refused command _ file c.in-Err.error reads c.in-Err.ensures.refused)
