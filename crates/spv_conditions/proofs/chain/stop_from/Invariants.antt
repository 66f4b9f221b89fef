use Rattle.std.proofs.Common.{◌≡◌, drop}
use Rattle.spv_module.specs.Module.{plain_operands}
use Rattle.spv_type_kinds.specs.Operands.{ids_in}
use Rattle.spv_conditions.specs.Stops.{stop_from}
use Rattle.spv_conditions.proofs.chain.stop_from.Given as goal

abbrev pub invariant-loop-operand : goal.invariant-loop-operand
invariant-loop-operand l = record {
  place : l.number ≡ l.operand-index;
  left : stop_from l.definitions 0 (ids_in (plain_operands l.indexes)) l.t ≡ stop_from l.definitions l.number
      (ids_in (plain_operands (drop l.operand-index l.indexes))) l.at;
}
