use Rattle.spv_lines.proofs.Whole.{every_text}
use Rattle.spv_lines.proofs.laws.read_or_fails.Goals as goal

pub returns : goal.returns
returns c = every_text
