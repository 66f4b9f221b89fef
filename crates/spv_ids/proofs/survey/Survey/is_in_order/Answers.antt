use Rattle.std.proofs.Common.{◌∙◌, sym}
use Rattle.spv_ids.specs.inner.Survey.{insts_of}
use Rattle.spv_ids.proofs.Scopes.{lower_holds, order_by}
use Rattle.spv_ids.proofs.survey.Survey.is_in_order.Goals as goal

pub returns-then-is_lower : goal.returns-then-is_lower
returns-then-is_lower c =
    let e = sym c.is_lower.ensures ∙ c.if-is_lower.true in
    rw c.if-is_lower.true (λ o. lower_holds c.args.self.now c.args.site.now.inst c.args.id c.requires.survey
    (rw c.requires.first at e))

pub returns-else-is_lower : goal.returns-else-is_lower
returns-else-is_lower c =
    let e = sym c.is_lower.ensures ∙ c.if-is_lower.false in
    let o = (c.is_ordered.ensures (insts_of c.args.self.now) c.args.site.now.inst c.requires.site.section).0
    c.if-not-is_ordered.false in
    order_by c.args.self.now c.args.site.now c.args.announced.now c.args.id c.may_be_early.result c.requires.survey
    c.requires.site c.requires.announced o (rw c.requires.first at e) c.may_be_early.ensures
