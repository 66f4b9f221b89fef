use Rattle.spv_ids.proofs.survey.Survey.is_use_sound.Goals as goal

pub returns-then-is_plain : goal.returns-then-is_plain
returns-then-is_plain c = λ t. c.is_plain.ensures c.args.id c.mark-definition.ensures c.if-is_plain.true

pub returns : goal.returns
returns c = λ t. c.is_sound.ensures c.args.id c.mark-definition.ensures t

pub returns-then-is_next : goal.returns-then-is_next
returns-then-is_next c = λ t. c.is_next.ensures c.args.id c.mark-definition.ensures c.if-is_next.true
