use Rattle.std.proofs.Common.{ℕ, List, ◌<◌, subst}
use Rattle.std.specs.List.{All}
use Rattle.spv_words.proofs.Drafting.{finished}
use Rattle.spv_words.proofs.draft.Draft.finish.Goals as goal

pub from_octets-requires : goal.from_octets-requires
from_octets-requires c = finished c.self.inside.bytes.items c.args.self (subst (λ (bs : List ℕ). All (λ b. b < 256) bs) c.as_slice.ensures.value c.fit.ensures) c.self.invariant c.self.view_is c.requires.header c.requires.size
