use Rattle.std.proofs.Common.{sym}
use Rattle.spvk.proofs.Showings.{refused_shown}
use Rattle.spvk.proofs.showing.refused.Goals as goal

pub returns-in-Ok : goal.returns-in-Ok
returns-in-Ok c = λ bytes G reach h. refused_shown G reach bytes c.args.code c.in-Ok.judgment _
    (sym c.in-Ok.ensures) h c.none.ensures.verdict c.none.ensures.buffer
