use Rattle.std.proofs.Common.{◌≡◌, ◌≤◌, ◌-◌, [], ◌∷◌, map, drop, length}
use Rattle.spv_module.specs.Module.{plain_operand}
use Rattle.spv_layout.specs.inner.Test.{are_rounds}
use Rattle.spv_layout.proofs.fitting.are_pairs.Given as goal

abbrev pub invariant-loop-at : goal.invariant-loop-at
invariant-loop-at l = record {
  within : l.at ≤ length l.operands;
  left : are_rounds l.kinds (l.one ∷ l.two ∷ []) [] (map plain_operand (drop l.at l.operands)) ≡ are_rounds l.kinds (l.one ∷ l.two ∷ []) [] (map plain_operand l.operands);
}

abbrev pub decreases-loop-at : goal.decreases-loop-at
decreases-loop-at l = length l.operands - l.at
