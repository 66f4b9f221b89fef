use Rattle.std.proofs.Common.{subst, sym, ◌∙◌}
use Rattle.spv_layout.specs.Plan.{IsPlaceOf}
use Rattle.spv_type_forms.proofs.definitions.Definitions.place.Goals as goal

pub returns : goal.returns
returns c =
    subst (λ is. IsPlaceOf is c.args.number c.in-Some.place) c.self.view_is
    (c.self.invariant.place c.args.number c.in-Some.place (sym c.at.ensures ∙ c.in-Some.is))
