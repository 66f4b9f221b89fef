use Rattle.std.proofs.Common.{◌∙◌, sym}
use Rattle.spv_ids.proofs.Homes.{no_place_at}
use Rattle.spv_ids.proofs.definitions.function_of.Goals as goal

pub returns-in-Some : goal.returns-in-Some
returns-in-Some c = λ is p. (p.place c.args.inst c.in-Some.place (sym c.at.ensures ∙ c.in-Some.is)).function

pub returns-in-None : goal.returns-in-None
returns-in-None c = λ is p f. no_place_at is c.args.plan.now c.args.inst f p (sym c.at.ensures ∙ c.in-None.is)
