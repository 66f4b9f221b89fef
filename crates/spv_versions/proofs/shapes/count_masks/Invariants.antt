use Rattle.std.proofs.Common.{◌≡◌, ◌≤◌, count_by, take}
use Rattle.spv_module.specs.Module.{plain_operand}
use Rattle.spv_versions.specs.Missing.{is_mask}
use Rattle.spv_versions.proofs.shapes.count_masks.Given as goal

abbrev pub invariant-loop-operand : goal.invariant-loop-operand
invariant-loop-operand l =
    (l.count ≡ count_by (λ o. is_mask (plain_operand o)) (take l.operand-index l.operands))
    × (l.count ≤ l.operand-index)
