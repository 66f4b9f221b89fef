use Rattle.spv_lines.proofs.Given.{free_tidy}
use Rattle.spv_lines.proofs.laws.tidy_by_kinds.Goals as goal

pub returns : goal.returns
returns c = free_tidy
