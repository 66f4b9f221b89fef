use Rattle.std.proofs.Common.{arith}
use Rattle.std.proofs.lemmas.Grind.{common_steps}
use Rattle.spv_fault_lines.proofs.classes.has_told.Goals as goal

pub returns-then-sound_alike : goal.returns-then-sound_alike
returns-then-sound_alike c = grind (arith, common_steps)

pub loop-told-preserved : goal.loop-told-preserved
loop-told-preserved c = grind (arith, common_steps)

pub returns : goal.returns
returns c = grind (arith, common_steps)
