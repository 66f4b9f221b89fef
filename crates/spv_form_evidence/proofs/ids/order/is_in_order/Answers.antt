use Rattle.spv_form_evidence.proofs.lemmas.ids.Ordering.{order_lower, order_by}
use Rattle.spv_form_evidence.proofs.ids.order.is_in_order.Goals as goal

pub returns-then-first-site : goal.returns-then-first-site
returns-then-first-site c =
    λ is bound n s a b f. order_lower is n c.args.id c.args.first c.args.site.now s f c.if-first-site.true

pub returns : goal.returns
returns c = λ is bound n s a b f.
    order_by is bound n c.args.id c.args.first c.args.site.now c.args.announced.now c.may_be_early.result s a b f
    c.if-first-site.false c.may_be_early.ensures
