use Rattle.spv_type_rules.proofs.constant.constitutes.Goals as goal

pub returns-in-Null-clause-answer : goal.returns-in-Null-clause-answer
returns-in-Null-clause-answer c = rw c.in-Null.is c.is_nullable.ensures.answer
