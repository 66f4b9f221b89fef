use Rattle.std.proofs.Common.{[], refl}
use Rattle.spv_inst.proofs.Lists.{listing_same}
use Rattle.spv_inst.proofs.laws.one_listing.Goals as goal

pub returns : goal.returns
returns c = λ G is js ws l m. listing_same G [] is js ws ws l m refl
