use Rattle.spv_lines.proofs.Given.{free_tidy}
use Rattle.spv_lines.proofs.laws.tables_are_tidy.Goals as goal

pub returns : goal.returns
returns c = λ G whole. free_tidy G whole.apart
