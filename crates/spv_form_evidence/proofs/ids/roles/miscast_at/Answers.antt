use Rattle.std.proofs.Common.{◌∙◌, sym, subst}
use Rattle.spv_module.specs.Module.{plain_inst}
use Rattle.spv_ids.specs.Outcome.{IsDefinitionOf}
use Rattle.spv_form_evidence.specs.ids.inner.Casts.{IsMiscast}
use Rattle.spv_form_evidence.proofs.lemmas.ids.Using.{not_such}
use Rattle.spv_form_evidence.proofs.lemmas.ids.Casting.{miscast}
use Rattle.spv_form_evidence.proofs.ids.roles.miscast_at.Goals as goal

pub returns-in_default : goal.returns-in_default
returns-in_default c = λ G n f t h. c.in_default.ensures G f h.id h.role h.used

pub returns-then-plays : goal.returns-then-plays
returns-then-plays c = λ G n f t.
    let is = c.args.definitions.now in
    let u = c.in-Some.used in
    not_such G (plain_inst c.args.inst.now) (IsMiscast is) c.args.k u.id u.role (c.in-Some.ensures G f)
    (λ m. m.not (c.plays.ensures.0 c.if-plays.true))

pub returns-in-Some-definition : goal.returns-in-Some-definition
returns-in-Some-definition c = λ G n f t.
    let is = c.args.definitions.now in
    let u = c.in-Some.used in
    let m = c.in-Some-definition.definition in
    let d = subst (λ o. IsDefinitionOf is u.id o) (sym c.definition.ensures ∙ c.in-Some-definition.is)
    (c.requires.ids u.id) in
    miscast G is n (plain_inst c.args.inst.now) c.args.k u.id m u.role c.plays.result t
    (c.in-Some.ensures G f) c.plays.ensures.1 c.if-plays.false d

pub returns-in-None : goal.returns-in-None
returns-in-None c = λ G n f t.
    let is = c.args.definitions.now in
    let u = c.in-Some.used in
    let d = subst (λ o. IsDefinitionOf is u.id o) (sym c.definition.ensures ∙ c.in-None.is) (c.requires.ids u.id) in
    not_such G (plain_inst c.args.inst.now) (IsMiscast is) c.args.k u.id u.role (c.in-Some.ensures G f)
    (λ m. d m.definition m.defined)
