use Rattle.std.proofs.lemmas.List.Sorted.{IsPermutation-sym}
use Rattle.spv_kernel_operands.proofs.Literals.{twice_permuted}
use Rattle.spv_kernel_operands.proofs.switch.has_twice.Goals as goal

pub returns : goal.returns
returns c = (
  λ t. twice_permuted c.sort.new.literals c.args.literals.now
      (IsPermutation-sym c.args.literals.now c.sort.new.literals c.sort.ensures.same) (c.has_equal.ensures.0 t),
  λ h. c.has_equal.ensures.1 (twice_permuted c.args.literals.now c.sort.new.literals c.sort.ensures.same h),
)
