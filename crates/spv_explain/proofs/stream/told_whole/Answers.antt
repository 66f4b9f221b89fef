use Rattle.spv_explain.proofs.stream.told_whole.Goals as goal

pub returns-clause-explanation : goal.returns-clause-explanation
returns-clause-explanation c = λ bytes order h. c.in_ok-told.ensures.explanation bytes order h

pub returns-clause-walk : goal.returns-clause-walk
returns-clause-walk c = λ bytes order h. c.in_ok-told.ensures.walk bytes order h
