use Rattle.spv_parser.proofs.Within.{column_counts}
use Rattle.spv_parser.proofs.laws.columns.Goals as goal

pub returns : goal.returns
returns c = column_counts
