use Rattle.std.proofs.Common.{◌≡◌, ◌+◌, map, take}
use Rattle.std.specs.Prelude.{sum_by}
use Rattle.spv_module.specs.Module.{plain_operand}
use Rattle.spv_layout.specs.Place.{operand_words}
use Rattle.spv_layout.proofs.place.words_past.Given as goal

abbrev pub invariant-loop-operand : goal.invariant-loop-operand
invariant-loop-operand l = l.count ≡ 1 + l.front + sum_by operand_words (take l.operand-index (map plain_operand l.rest))
