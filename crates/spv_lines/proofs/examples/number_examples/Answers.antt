use Rattle.spv_lines.proofs.Worked.{hexadecimal}
use Rattle.spv_lines.proofs.examples.number_examples.Goals as goal

pub returns-clause-hexadecimal : goal.returns-clause-hexadecimal
returns-clause-hexadecimal c = hexadecimal
