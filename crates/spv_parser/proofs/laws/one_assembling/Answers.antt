use Rattle.spv_parser.proofs.Imaged.{one_image}
use Rattle.spv_parser.proofs.laws.one_assembling.Goals as goal

pub returns : goal.returns
returns c = one_image
