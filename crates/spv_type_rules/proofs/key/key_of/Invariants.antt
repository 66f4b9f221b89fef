use Rattle.std.proofs.Common.{◌≡◌, ◌++◌, ◌∷◌, drop}
use Rattle.spv_module.specs.Module.{plain_operands}
use Rattle.spv_type_rules.specs.inner.Key.{all_numbers}
use Rattle.spv_type_rules.proofs.key.key_of.Given as goal

abbrev pub invariant-loop-operand : goal.invariant-loop-operand
invariant-loop-operand l =
    l.key.items ++ all_numbers (plain_operands (drop l.operand-index l.operands)) ≡ l.inst.opcode
    ∷ all_numbers (plain_operands l.operands)
