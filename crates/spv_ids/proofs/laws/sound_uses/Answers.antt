use Rattle.spv_ids.proofs.Sound.{sound_use}
use Rattle.spv_ids.proofs.laws.sound_uses.Goals as goal

pub returns : goal.returns
returns c = λ G bound is places n k x r p u w. sound_use G bound is places n k x r p u w
