use Rattle.std.proofs.Common.{◌≡◌, drop}
use Rattle.spv_module.specs.Module.{plain_operands}
use Rattle.spv_type_kinds.specs.Operands.{words_in}
use Rattle.spv_conditions.specs.Path.{reached_by}
use Rattle.spv_conditions.proofs.path.reached_by.Given as goal

abbrev pub invariant-loop-operand : goal.invariant-loop-operand
invariant-loop-operand l =
    reached_by l.definitions (words_in (plain_operands l.operands)) l.t ≡ reached_by l.definitions
    (words_in (plain_operands (drop l.operand-index l.operands))) l.at
