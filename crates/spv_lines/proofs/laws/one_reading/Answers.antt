use Rattle.spv_lines.proofs.Reading.{reads_once}
use Rattle.spv_lines.proofs.laws.one_reading.Goals as goal

pub returns : goal.returns
returns c = reads_once
