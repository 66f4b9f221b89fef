use Rattle.std.proofs.Common.{[], refl}
use Rattle.spv_inst.proofs.Lists.{dies_not}
use Rattle.spv_inst.proofs.laws.listed_or_dead.Goals as goal

pub returns : goal.returns
returns c = λ G is ws a k n l d. dies_not G [] is ws ws a k n d l refl
