use Rattle.std.proofs.Common.{[], refl}
use Rattle.spv_inst.proofs.Lists.{listing_once}
use Rattle.spv_inst.proofs.laws.one_listing_spelling.Goals as goal

pub returns : goal.returns
returns c = λ G is ws vs l m. listing_once G [] is is ws vs l m refl
