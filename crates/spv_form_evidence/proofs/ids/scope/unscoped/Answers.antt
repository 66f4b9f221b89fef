use Rattle.std.proofs.Common.{◌≡◌, ◌∙◌, Some, sym, length}
use Rattle.spv_module.specs.Module.{plain_inst}
use Rattle.spv_form_evidence.specs.ids.inner.Known.{kept}
use Rattle.spv_form_evidence.specs.ids.inner.Scope.{IsUnscoped}
use Rattle.spv_form_evidence.proofs.lemmas.ids.Using.{not_such}
use Rattle.spv_form_evidence.proofs.lemmas.ids.Scoping.{local_one, not_local, in_scope, is_of_function, unscoped_here}
use Rattle.spv_form_evidence.proofs.ids.scope.unscoped.Goals as goal

pub returns-in_default : goal.returns-in_default
returns-in_default c = λ G bound is n p f o a m g h. c.in_default.ensures G f h.id h.role h.used

pub returns-in_default-get : goal.returns-in_default-get
returns-in_default-get c = λ G bound is n p f o a m g.
    let u = c.in-Some.used in
    not_such G (plain_inst c.args.inst.now) (IsUnscoped bound is n m g) c.args.k u.id u.role (c.in-Some.ensures G f)
    (λ h. not_local bound is c.args.here u.id m g c.args.local.now a h.below
    (sym c.get.ensures ∙ c.in_default-get.is) h.local)

pub returns-in_default-home : goal.returns-in_default-home
returns-in_default-home c = λ G bound is n p f o a m g h.
    let u = c.in-Some.used in
    let e : kept c.args.local.now u.id ≡ Some c.in-Some-get.definition = sym c.get.ensures ∙ c.in-Some-get.is in
    let q = local_one bound is c.args.here (length is) u.id c.in-Some-get.definition c.args.local.now a e in
    c.in_default-home.ensures G is u.id p q.there q.function q.home

pub returns-then-is_here : goal.returns-then-is_here
returns-then-is_here c = λ G bound is n p f o a m g.
    let u = c.in-Some.used in
    let d = c.in-Some-get.definition in
    let e : kept c.args.local.now u.id ≡ Some d = sym c.get.ensures ∙ c.in-Some-get.is in
    let q = local_one bound is c.args.here (length is) u.id d c.args.local.now a e in
    let h = c.in-Some-home.ensures G is u.id p q.there in
    let w = is_of_function is n c.in-Some-home.function c.args.here o (c.is_here.ensures.0 c.if-is_here.true) in
    not_such G (plain_inst c.args.inst.now) (IsUnscoped bound is n m g) c.args.k u.id u.role (c.in-Some.ensures G f)
    (λ s. s.not (in_scope is n u.id d c.in-Some-home.function q.there h w))

pub returns-else-is_here : goal.returns-else-is_here
returns-else-is_here c = λ G bound is n p f o a.
    let u = c.in-Some.used in
    let d = c.in-Some-get.definition in
    let e : kept c.args.local.now u.id ≡ Some d = sym c.get.ensures ∙ c.in-Some-get.is in
    let q = local_one bound is c.args.here (length is) u.id d c.args.local.now a e in
    let h = c.in-Some-home.ensures G is u.id p q.there in
    unscoped_here G bound is c.args.here n
    (plain_inst c.args.inst.now) c.args.k u.id d c.in-Some-home.function u.role c.args.local.now
    (c.in-Some.ensures G f) o a e h
    (λ r. let z = c.is_here.ensures.1 r in let s = c.if-is_here.false in cc)
