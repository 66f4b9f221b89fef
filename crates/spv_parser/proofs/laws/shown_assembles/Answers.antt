use Rattle.spv_parser.proofs.ShownBack.{image_back, only_memory}
use Rattle.spv_parser.proofs.laws.shown_assembles.Goals as goal

pub returns-clause-image : goal.returns-clause-image
returns-clause-image c = image_back

pub returns-clause-error : goal.returns-clause-error
returns-clause-error c = only_memory
