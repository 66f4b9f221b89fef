use Rattle.std.proofs.Common.{sym, ◌∙◌}
use Rattle.spv_run.proofs.Moving.{placed, unplaced}
use Rattle.spv_run.proofs.moves.place_of.Goals as goal

pub returns-in-Some : goal.returns-in-Some
returns-in-Some c = λ is m n d. placed is c.args.ids.now c.args.id m c.in-Some.place n
    (sym c.definition.ensures ∙ c.in-Some.is) d

pub returns-in-None : goal.returns-in-None
returns-in-None c = λ is m n d. absurd (unplaced is c.args.ids.now c.args.id m n
    (sym c.definition.ensures ∙ c.in-None.is) d)
