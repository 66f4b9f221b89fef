use Rattle.std.proofs.Common.{map, refl}
use Rattle.spv_inst.specs.Flat.{due}
use Rattle.spv_inst.proofs.Flat.{unique}
use Rattle.spv_inst.proofs.Joined.{match_flat}
use Rattle.spv_inst.proofs.laws.one_reading.Goals as goal

pub returns : goal.returns
returns c = λ G d is os ps us m n. unique G d (map due is) os ps us us (match_flat G d is os us m)
    (match_flat G d is ps us n) refl
