use Rattle.std.proofs.Common.{◌∙◌, sym}
use Rattle.spv_type_evidence.proofs.lemmas.types.Firsts.{condition_otherwise}
use Rattle.spv_type_evidence.proofs.types.declaration.condition_at.Goals as goal

pub returns-else-operand-eq0 : goal.returns-else-operand-eq0
returns-else-operand-eq0 c = c.condition_after.ensures
    ∙ sym (condition_otherwise c.args.declaration c.args.operand c.in_default.not-Forward c.if-operand-eq0.false)
