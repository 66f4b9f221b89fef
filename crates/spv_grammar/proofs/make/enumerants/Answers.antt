use Rattle.std.proofs.Common.{ap, ◌∙◌, sym, arith}
use Rattle.std.proofs.lemmas.Grind.{common_steps}
use Rattle.spv_grammar.specs.Made.{is_kept, enumerant_from}
use Rattle.spv_grammar.proofs.Fronts.{keep_step, skip_step}
use Rattle.spv_grammar.proofs.make.enumerants.Goals as goal
use Rattle.spv_grammar.proofs.make.enumerants.Goals.{then-is_kept+in_ok-enumerant+in_ok-push, else-is_kept}

pub loop-element-preserved : goal.loop-element-preserved
loop-element-preserved c =
    elim c.if-is_kept.branch [
      | then-is_kept+in_ok-enumerant+in_ok-push w ↦
          keep_step (enumerant_from c.args.numbers.now) (is_kept c.args.category) c.args.elements.now c.loop-element.element-index c.element-item.result _ c.loop-element.found.items c.if-is_kept.found.items
          _ c.loop-element-test.true c.element-item.is c.loop-element.invariant (sym c.is_kept.ensures ∙ w.if-is_kept.true) w.in_ok-enumerant.ensures (ap (λ v. v.items) w.found-is ∙ w.in_ok-push.ensures.items)
      | else-is_kept w ↦
          skip_step (enumerant_from c.args.numbers.now) (is_kept c.args.category) c.args.elements.now c.loop-element.element-index c.element-item.result _ c.loop-element.found.items c.if-is_kept.found.items
          c.loop-element-test.true c.element-item.is c.loop-element.invariant (sym c.is_kept.ensures ∙ w.if-is_kept.false) (ap (λ v. v.items) w.found-is)
    ]

pub returns-in_err-enumerant : goal.returns-in_err-enumerant
returns-in_err-enumerant c = grind (arith, common_steps)

pub returns : goal.returns
returns c = grind (arith, common_steps)
