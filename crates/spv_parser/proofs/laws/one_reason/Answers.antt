use Rattle.spv_parser.proofs.Alone as alone
use Rattle.spv_parser.proofs.laws.one_reason.Goals as goal

pub returns : goal.returns
returns c = alone.one_reason
