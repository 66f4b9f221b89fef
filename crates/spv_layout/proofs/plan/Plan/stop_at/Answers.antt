use Rattle.std.proofs.Common.{◌∙◌, sym, refl}
use Rattle.spv_layout.proofs.plan.Plan.stop_at.Goals as goal

pub returns : goal.returns
returns c = λ is p. (refl, refl, (p c.args.inst c.in-Some.place (sym c.at.ensures ∙ c.in-Some.is)).word)
