use Rattle.std.proofs.Common.{◌↔◌, None, drop}
use Rattle.spv_module.specs.Module.{plain_operands}
use Rattle.spv_conditions.specs.Further.{AreMembers}
use Rattle.spv_conditions.proofs.further.are_members.Given as goal

abbrev pub invariant-loop-operand : goal.invariant-loop-operand
invariant-loop-operand l =
    AreMembers l.definitions l.waiting (plain_operands (drop l.operand-index l.operands))
    ↔ AreMembers l.definitions None (plain_operands l.operands)
