use Rattle.std.proofs.Common.{drop}
use Rattle.spv_module.specs.Module.{plain_operands}
use Rattle.spv_layout.specs.declared.form.Role.TheVariants as due
use Rattle.spv_type_rules.specs.roles.inner.Asked.{ArePlayed, IsOneMiscast}
use Rattle.spv_type_rules.proofs.roles.check.are_arguments_played.Given as goal

abbrev pub invariant-loop-operand : goal.invariant-loop-operand
invariant-loop-operand l =
    (ArePlayed l.definitions due.Any due.Any due.Any (plain_operands (drop l.operand-index l.operands))
    → ArePlayed l.definitions due.Any due.Any due.Any (plain_operands l.operands))
    × (IsOneMiscast l.definitions due.Any due.Any due.Any (plain_operands (drop l.operand-index l.operands))
    → IsOneMiscast l.definitions due.Any due.Any due.Any (plain_operands l.operands))
