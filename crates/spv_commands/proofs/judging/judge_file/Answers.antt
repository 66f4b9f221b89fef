use Rattle.spv_commands.proofs.judging.judge_file.Goals as goal

pub returns-in-Ok-judged_part-clause-judged : goal.returns-in-Ok-judged_part-clause-judged
returns-in-Ok-judged_part-clause-judged c = let judged = c.in-Ok-judged_part.ensures.judged in
    rw (c.in-Ok.is, judged.0) judged.1
