use Rattle.spv_pictures.proofs.Targets.{targets}
use Rattle.spv_pictures.proofs.laws.edges.Goals as goal

pub returns : goal.returns
returns c = targets
