use Rattle.std.proofs.Common.{◌∙◌, ap, sym}
use Rattle.spv_kernel_operands.proofs.Literals.{literals_none, literals_one}
use Rattle.spv_kernel_operands.proofs.switch.literals_of.Goals as goal
use Rattle.spv_kernel_operands.proofs.switch.literals_of.Goals.{in-Some+in_ok-push, in_default}

pub loop-operand-preserved : goal.loop-operand-preserved
loop-operand-preserved c = elim c.match-literal_in.branch [
  | in-Some+in_ok-push w ↦
      ap (λ v. v.items) w.literals-is ∙ w.in_ok-push.ensures.items
      ∙ literals_one c.args.operands.now c.loop-operand.operand-index _ w.in-Some.literal c.loop-operand.literals.items
      c.loop-operand-test.true (sym c.literal_in.ensures ∙ w.in-Some.is) c.loop-operand.invariant
  | in_default w ↦
      ap (λ v. v.items) w.literals-is
      ∙ literals_none c.args.operands.now c.loop-operand.operand-index _ c.loop-operand.literals.items
      c.loop-operand-test.true (sym c.literal_in.ensures ∙ w.in_default.is) c.loop-operand.invariant
]
