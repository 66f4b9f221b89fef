use Rattle.std.proofs.Common.{◌∙◌}
use Rattle.spv_commands.proofs.Answerings.{explains}
use Rattle.spv_commands.proofs.replying.explaining.Goals as goal

pub returns-in-Ok-clause-gives : goal.returns-in-Ok-clause-gives
returns-in-Ok-clause-gives c = λ detail G reach bytes h.
    explains detail G reach bytes c.args.explanation.now c.verdict.result h (c.verdict.ensures.out ∙ c.in-Ok.ensures)
    c.verdict.ensures.made c.verdict.ensures.done
