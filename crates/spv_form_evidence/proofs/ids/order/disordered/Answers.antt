use Rattle.std.proofs.Common.{◌∙◌, sym}
use Rattle.spv_module.specs.Module.{plain_inst}
use Rattle.spv_form_evidence.specs.ids.inner.Order.{IsDisordered}
use Rattle.spv_form_evidence.proofs.lemmas.ids.Using.{not_such}
use Rattle.spv_form_evidence.proofs.lemmas.ids.Ordering.{first_of, none_of, disordered_here}
use Rattle.spv_form_evidence.proofs.ids.order.disordered.Goals as goal

pub returns-in_default : goal.returns-in_default
returns-in_default c = λ G bound is n f s a d m h. c.in_default.ensures G f h.id h.role h.used

pub returns-in_default-get : goal.returns-in_default-get
returns-in_default-get c = λ G bound is n f s a d m.
    let u = c.in-Some.used in
    not_such G (plain_inst c.args.inst.now) (IsDisordered bound is n m) c.args.k u.id u.role (c.in-Some.ensures G f)
    (λ h. none_of bound is u.id c.args.definitions.now a h.below (sym c.get.ensures ∙ c.in_default-get.is) m h.defined)

pub returns-then-is_in_order : goal.returns-then-is_in_order
returns-then-is_in_order c = λ G bound is n f s a d m.
    let u = c.in-Some.used in
    not_such G (plain_inst c.args.inst.now) (IsDisordered bound is n m) c.args.k u.id u.role (c.in-Some.ensures G f)
    (λ h. h.not (c.if-is_in_order.ensures is bound n s d h.below
    (first_of bound is _ u.id c.in-Some-get.first c.args.definitions.now a h.below
    (sym c.get.ensures ∙ c.in-Some-get.is))))

pub returns-else-is_in_order : goal.returns-else-is_in_order
returns-else-is_in_order c = λ G bound is n f s a d.
    let u = c.in-Some.used in
    disordered_here G bound is n (plain_inst c.args.inst.now) c.args.k u.id c.in-Some-get.first u.role
    c.args.definitions.now (c.in-Some.ensures G f) a (sym c.get.ensures ∙ c.in-Some-get.is)
    (λ b o. c.if-is_in_order.ensures is bound n s d b o)
