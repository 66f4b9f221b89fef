use Rattle.std.proofs.Common.{[], refl}
use Rattle.spv_inst.proofs.Lists.{dies_same}
use Rattle.spv_inst.proofs.laws.one_death.Goals as goal

pub returns : goal.returns
returns c = λ G ws a b k l n m d e. let r = dies_same G [] ws ws a b k l n m d e refl in (r.code, r.inst, r.word)
