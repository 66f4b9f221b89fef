use Rattle.std.proofs.Common.{◌≡◌, ◌+◌, ◌≤◌, length, drop}
use Rattle.spv_module.specs.Module.{plain_operands}
use Rattle.spv_type_kinds.specs.Operands.{words_in}
use Rattle.spv_type_kinds.proofs.operands.word_count.Given as goal

abbrev pub invariant-loop-operand : goal.invariant-loop-operand
invariant-loop-operand l =
    (l.count ≤ l.operand-index) × (l.count + length
    (words_in (plain_operands (drop l.operand-index l.operands))) ≡ length (words_in (plain_operands l.operands)))
