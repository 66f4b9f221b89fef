use Rattle.spv_explain.proofs.stream.told_by.Goals as goal

pub returns : goal.returns
returns c = λ bytes order h. c.in_ok-told.ensures.explanation bytes order h
