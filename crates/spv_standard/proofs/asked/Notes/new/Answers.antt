use Rattle.std.proofs.Common.{refl}
use Rattle.spv_standard.proofs.Noting.{nothing_noted}
use Rattle.spv_standard.proofs.asked.Notes.new.Goals as goal

pub returns : goal.returns
returns c = λ G minor is l k a e known. absurd (nothing_noted 400 k _ a refl e known)
