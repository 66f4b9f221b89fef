use Rattle.std.proofs.Common.{arith}
use Rattle.std.proofs.lemmas.Grind.{common_steps}
use Rattle.spv_type_rules.proofs.declaration.is_sound_image.Goals as goal

pub returns-else-image-le1-2 : goal.returns-else-image-le1-2
returns-else-image-le1-2 c = grind (arith, common_steps)
