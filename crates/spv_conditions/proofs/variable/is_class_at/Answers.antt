use Rattle.std.proofs.lemmas.Bool.{eqb-true, eq-eqb}
use Rattle.spv_conditions.proofs.lemmas.Places.{class_inside, class_outside, of_function, of_none}
use Rattle.spv_conditions.proofs.variable.is_class_at.Goals as goal

pub returns-in-Some : goal.returns-in-Some
returns-in-Some c =
    let is = c.args.definitions.now in
    let o = of_function is c.args.number c.in-Some.field-0 c.place-place.result.function c.place-place.ensures.function
    c.in-Some.is in
    let d = class_inside is c.args.number c.in-Some.field-0 c.args.class o in
    (λ y. d.0 (eqb-true c.args.class 7 y), λ r. eq-eqb c.args.class 7 (d.1 r))

pub returns-in-None : goal.returns-in-None
returns-in-None c =
    let is = c.args.definitions.now in
    let o = of_none is c.args.number c.place-place.result.function c.place-place.ensures.function c.in-None.is in
    let d = class_outside is c.args.number c.args.class c.place-place.result c.place-place.ensures o in
    (λ y. d.0 (c.is_global_class.ensures.0 y), λ r. c.is_global_class.ensures.1 (d.1 r))
