use Rattle.std.proofs.Common.{◌≡◌, drop}
use Rattle.spv_module.specs.Module.{plain_operands}
use Rattle.spv_type_kinds.specs.Operands.{words_in}
use Rattle.spv_type_kinds.proofs.operands.has_words.Given as goal

abbrev pub invariant-loop-operand : goal.invariant-loop-operand
invariant-loop-operand l =
    words_in (plain_operands l.operands) ≡ words_in (plain_operands (drop l.operand-index l.operands))
