use Rattle.spv_inst.proofs.Joined.{match_flat, flat_match}
use Rattle.spv_inst.proofs.laws.same_matches.Goals as goal

pub returns : goal.returns
returns c = λ G d is os us. (match_flat G d is os us, flat_match G d is os us)
