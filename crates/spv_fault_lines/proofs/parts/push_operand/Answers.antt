use Rattle.std.proofs.Common.{arith}
use Rattle.std.proofs.lemmas.Grind.{common_steps}
use Rattle.spv_fault_lines.proofs.parts.push_operand.Goals as goal

pub returns-in_ok-push_str-in-Some-Value : goal.returns-in_ok-push_str-in-Some-Value
returns-in_ok-push_str-in-Some-Value c = grind (arith, common_steps)
