use Rattle.std.proofs.Common.{codes}
use Rattle.spv_facts.proofs.Joined.{joined}
use Rattle.spv_fault_lines.proofs.lines.push_owner.Goals as goal

pub returns : goal.returns
returns c = joined _ _ _ _ (codes ", of operand") _ c.in_ok-push_str.ensures.bytes c.push_operand_text.ensures
