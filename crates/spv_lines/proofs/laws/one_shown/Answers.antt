use Rattle.spv_lines.proofs.Once.{text_once}
use Rattle.spv_lines.proofs.laws.one_shown.Goals as goal

pub returns : goal.returns
returns c = text_once
