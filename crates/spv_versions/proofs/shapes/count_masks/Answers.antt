use Rattle.std.proofs.Common.{◌∙◌, count_by, sym, ap}
use Rattle.std.proofs.lemmas.List.{take_all}
use Rattle.spv_module.specs.Module.{plain_operand}
use Rattle.spv_versions.specs.Missing.{is_mask}
use Rattle.spv_versions.proofs.Shaping.{masks_read}
use Rattle.spv_versions.proofs.shapes.count_masks.Goals as goal

pub returns : goal.returns
returns c =
    let os = c.args.operands.now in
    c.loop-operand.invariant.0
    ∙ ap (count_by (λ o. is_mask (plain_operand o))) (take_all c.loop-operand.operand-index os c.loop-operand-test.false)
    ∙ sym (masks_read os)
