use Rattle.spv_lines.proofs.Worked.{wide_decimal, wide_hexadecimal}
use Rattle.spv_lines.proofs.examples.operand_examples.Goals as goal

pub returns-clause-decimal : goal.returns-clause-decimal
returns-clause-decimal c = wide_decimal

pub returns-clause-hexadecimal : goal.returns-clause-hexadecimal
returns-clause-hexadecimal c = wide_hexadecimal
