use Rattle.std.proofs.Common.{◌≡◌, true, false, subst}
use Rattle.std.proofs.lemmas.Bool.{eqb-true, eq-eqb}
use Rattle.spv_ids.specs.Outcome.{IsOnly}
use Rattle.spv_type_forms.proofs.Matched.{other_place}
use Rattle.spv_type_forms.proofs.matching.is_defined_at.Goals as goal

pub returns-in-Some : goal.returns-in-Some
returns-in-Some c = (
  λ y. subst (IsOnly c.args.definitions.now c.args.t) (eqb-true c.in-Some.place c.args.number y) c.in-Some.ensures,
  λ one. eq-eqb c.in-Some.place c.args.number
      (other_place c.args.definitions.now c.args.t c.in-Some.place c.args.number c.in-Some.ensures one),
)

pub returns-in-None : goal.returns-in-None
returns-in-None c = (
  λ y. absurd (let no : false ≡ true = y in cc),
  λ one. absurd (c.in-None.ensures c.args.number one.there),
)
