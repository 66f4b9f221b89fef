use Rattle.std.proofs.Common.{◌≡◌, ◌++◌, drop}
use Rattle.spv_module.specs.Module.{plain_operands}
use Rattle.spv_type_kinds.specs.Operands.{words_in}
use Rattle.spv_readings.specs.Path.{path_by}
use Rattle.spv_readings.proofs.path.path_by.Given as goal

abbrev pub invariant-loop-operand : goal.invariant-loop-operand
invariant-loop-operand l =
    path_by l.definitions (words_in (plain_operands l.operands)) l.t ≡ l.types.items
    ++ path_by l.definitions (words_in (plain_operands (drop l.operand-index l.operands))) l.at
