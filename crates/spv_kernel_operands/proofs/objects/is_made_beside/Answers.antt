use Rattle.std.proofs.lemmas.Bool.{false≢true}
use Rattle.spv_kernel_operands.proofs.Images.{image_only}
use Rattle.spv_kernel_operands.proofs.objects.is_made_beside.Goals as goal

pub returns-in-Some : goal.returns-in-Some
returns-in-Some c = (
  λ t. (c.in-Some.made, c.in-Some.ensures.there, c.is_image_beside.ensures.0 t),
  λ h. c.is_image_beside.ensures.1
      (image_only c.args.definitions.now c.args.number c.args.id c.in-Some.made c.in-Some.ensures h),
)

pub returns-in-None : goal.returns-in-None
returns-in-None c = (λ t. absurd (false≢true t), λ h. absurd (c.in-None.ensures h.0 h.1))
