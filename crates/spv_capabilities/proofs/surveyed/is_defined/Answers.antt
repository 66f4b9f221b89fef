use Rattle.std.proofs.Common.{◌≡◌, ◌∙◌, ap, refl, Some}
use Rattle.std.proofs.lemmas.Bool.{eqb-true}
use Rattle.spv_capabilities.proofs.Placed.{definition_tells, tells_definition}
use Rattle.spv_capabilities.proofs.surveyed.is_defined.Goals as goal

pub returns-then-own-function : goal.returns-then-own-function
returns-then-own-function c = λ is p.
    let f = c.args.function in
    let e : c.args.place.function ≡ Some f = c.in-Some.is ∙ ap Some c.if-own-function.true in (
      λ t. tells_definition is f c.args.place p e (eqb-true c.args.place.section 13 t),
      λ d. let s = (definition_tells is f c.args.place p d).1 in rw s refl,
    )
