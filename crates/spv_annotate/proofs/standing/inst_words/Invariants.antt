use Rattle.std.proofs.Common.{◌≡◌, ◌+◌, length, map, take}
use Rattle.std.specs.Prelude.{sum_by}
use Rattle.spv_module.specs.Module.{plain_operand}
use Rattle.spv_layout.specs.Place.{operand_words}
use Rattle.spv_annotate.proofs.standing.inst_words.Given as goal

abbrev pub invariant-loop-operand : goal.invariant-loop-operand
invariant-loop-operand l =
    l.count + l.operand-index ≡ 1 + length l.operands + sum_by operand_words
    (take l.operand-index (map plain_operand l.operands))
