use Rattle.std.proofs.Common.{drop}
use Rattle.spv_module.specs.Module.{plain_operands}
use Rattle.spv_type_rules.specs.roles.inner.Asked.{ArePlayed, IsOneMiscast}
use Rattle.spv_type_rules.proofs.roles.check.each_played.Given as goal

abbrev pub invariant-loop-operand : goal.invariant-loop-operand
invariant-loop-operand l =
    (ArePlayed l.definitions l.due l.next l.asked.masked (plain_operands (drop l.operand-index l.operands))
    → ArePlayed l.definitions l.asked.first l.asked.others l.asked.masked (plain_operands l.operands))
    × (IsOneMiscast l.definitions l.due l.next l.asked.masked (plain_operands (drop l.operand-index l.operands))
    → IsOneMiscast l.definitions l.asked.first l.asked.others l.asked.masked (plain_operands l.operands))
