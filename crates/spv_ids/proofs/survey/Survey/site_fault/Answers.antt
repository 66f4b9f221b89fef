use Rattle.std.proofs.Common.{◌∙◌, sym}
use Rattle.spv_ids.specs.inner.Faulty.{IsBadUse}
use Rattle.spv_ids.specs.inner.Survey.{insts_of}
use Rattle.spv_ids.proofs.Bools.{false_true, match_true, match_false}
use Rattle.spv_ids.proofs.Scopes.{least_range, least_undefined, least_order, least_scope, undefined_by, defined_by}
use Rattle.spv_ids.proofs.Scopes.{no_bad}
use Rattle.spv_ids.proofs.survey.Survey.site_fault.Goals as goal

pub returns-then-is_out_of_range : goal.returns-then-is_out_of_range
returns-then-is_out_of_range c = (
  IsBadUse.out_of_range (c.is_out_of_range.ensures.0 c.if-is_out_of_range.true),
  λ q b. least_range c.args.self.now.bound (insts_of c.args.self.now) c.args.site.now.inst c.args.id q b,
)

pub returns-then-not-is_defined : goal.returns-then-not-is_defined
returns-then-not-is_defined c =
    let s = c.args.self.now in
    let e = sym c.is_defined.ensures ∙ c.if-not-is_defined.true in
    let e' = rw (c.requires.first, c.get.ensures) at e in (
      IsBadUse.undefined (undefined_by s c.args.id c.requires.survey e'),
      λ q b. least_undefined s.bound (insts_of s) c.args.site.now.inst c.args.id q
          (λ h. false_true (sym c.if-is_out_of_range.false ∙ c.is_out_of_range.ensures.1 h)) b,
    )

pub returns-then-not-is_in_order : goal.returns-then-not-is_in_order
returns-then-not-is_in_order c =
    let s = c.args.self.now in
    let e = sym c.is_defined.ensures ∙ c.if-not-is_defined.false in
    let e' = rw (c.requires.first, c.get.ensures) at e in
    let d = defined_by s c.args.id c.requires.survey e' in
    let o = match_false _ _ c.is_in_order.result c.if-not-is_in_order.true c.is_in_order.ensures in (
      IsBadUse.not_in_order o.0 o.1,
      λ q b. least_order s.bound (insts_of s) c.args.site.now.inst c.args.id d.place q
          (λ h. false_true (sym c.if-is_out_of_range.false ∙ c.is_out_of_range.ensures.1 h)) d.there b,
    )

pub returns-then-not-is_in_scope : goal.returns-then-not-is_in_scope
returns-then-not-is_in_scope c =
    let s = c.args.self.now in
    let e = sym c.is_defined.ensures ∙ c.if-not-is_defined.false in
    let e' = rw (c.requires.first, c.get.ensures) at e in
    let d = defined_by s c.args.id c.requires.survey e' in
    let o = match_true _ _ c.is_in_order.result c.if-not-is_in_order.false c.is_in_order.ensures in
    let p = match_false _ _ c.is_in_scope.result c.if-not-is_in_scope.true c.is_in_scope.ensures in (
      IsBadUse.not_in_scope p.0 p.1 p.2,
      λ q b. least_scope s.bound (insts_of s) c.args.site.now.inst c.args.id d.place q
          (λ h. false_true (sym c.if-is_out_of_range.false ∙ c.is_out_of_range.ensures.1 h)) d.there o b,
    )

pub returns : goal.returns
returns c = λ q b.
    let s = c.args.self.now in
    let e = sym c.is_defined.ensures ∙ c.if-not-is_defined.false in
    let e' = rw (c.requires.first, c.get.ensures) at e in
    let d = defined_by s c.args.id c.requires.survey e' in
    let o = match_true _ _ c.is_in_order.result c.if-not-is_in_order.false c.is_in_order.ensures in
    let p = match_true _ _ c.is_in_scope.result c.if-not-is_in_scope.false c.is_in_scope.ensures in
    no_bad s.bound (insts_of s) c.args.site.now.inst c.args.id
    (λ h. false_true (sym c.if-is_out_of_range.false ∙ c.is_out_of_range.ensures.1 h)) d.place d.there o p q b
