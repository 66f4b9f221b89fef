use Rattle.std.proofs.Common.{map, refl}
use Rattle.spv_inst.specs.Flat.{due}
use Rattle.spv_inst.proofs.Flat.{spelled_once}
use Rattle.spv_inst.proofs.Joined.{match_flat}
use Rattle.spv_inst.proofs.laws.one_spelling.Goals as goal

pub returns : goal.returns
returns c = λ G d is os us vs m n. spelled_once G d (map due is) os os us vs (match_flat G d is os us m)
    (match_flat G d is os vs n) refl
