use Rattle.spv_parser.proofs.Imaged.{image_again, memory_alone}
use Rattle.spv_parser.proofs.laws.decoded_assembles.Goals as goal

pub returns-clause-image : goal.returns-clause-image
returns-clause-image c = image_again

pub returns-clause-error : goal.returns-clause-error
returns-clause-error c = memory_alone
