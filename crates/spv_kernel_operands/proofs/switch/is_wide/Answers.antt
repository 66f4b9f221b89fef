use Rattle.std.proofs.lemmas.Bool.{false≢true}
use Rattle.spv_kernel_operands.proofs.Literals.{by_wide, none_wide, wide_by}
use Rattle.spv_kernel_operands.proofs.switch.is_wide.Goals as goal

pub returns-then-width-ge64 : goal.returns-then-width-ge64
returns-then-width-ge64 c = (
  λ t. absurd (false≢true t),
  λ h. absurd (none_wide c.args.literal c.args.width c.ranges.literal.fits c.if-width-ge64.true h),
)

pub returns : goal.returns
returns c = (wide_by c.args.literal c.args.width, by_wide c.args.literal c.args.width)
