use Rattle.spv_inst.proofs.Leaves.{leaf_meets}
use Rattle.spv_inst.proofs.laws.no_gap.Goals as goal

pub returns : goal.returns
returns c = λ k sh us h l. leaf_meets k sh us h l
