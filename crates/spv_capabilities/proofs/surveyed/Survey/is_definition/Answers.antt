use Rattle.std.proofs.Common.{◌∙◌, sym, subst}
use Rattle.spv_layout.specs.Plan.{IsPlaceOf}
use Rattle.spv_capabilities.specs.inner.Subject.{Subject}
use Rattle.spv_capabilities.proofs.surveyed.Survey.is_definition.Goals as goal

pub returns : goal.returns
returns c =
    let p = c.self.invariant.place c.args.function c.in-Some.place (sym c.at.ensures ∙ c.in-Some.is) in
    c.is_defined.ensures c.args.self.now.insts
    (subst (λ (s : Subject). IsPlaceOf s.insts c.args.function c.in-Some.place) c.self.view_is p)
