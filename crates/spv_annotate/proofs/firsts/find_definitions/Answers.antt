use Rattle.std.proofs.Common.{◌≡◌, ◌<◌, ◌+◌, ◌-◌, ◌∙◌, ℕ, Some, map, length, sym, ap, arith}
use Rattle.std.specs.Prelude.{if◌then◌else◌, slice_get}
use Rattle.spv_table.specs.Lookups.{is_number}
use Rattle.spv_module.specs.Module.{plain_inst}
use Rattle.spv_module.specs.Operand.{result_in}
use Rattle.spv_layout.proofs.Misfits.{inst_there}
use Rattle.spv_annotate.specs.inner.Numbers.{kept}
use Rattle.spv_annotate.proofs.Places.{position_step}
use Rattle.spv_annotate.proofs.firsts.find_definitions.Goals as goal

pub loop-at-preserved : goal.loop-at-preserved
loop-at-preserved c =
    let k : ℕ = c.loop-at.at - 1 in
    let is = map plain_inst c.args.insts.now in
    let i = plain_inst c.index-insts-at.result in
    let w = c.loop-at.invariant.within in
    let l : k < length c.args.insts.now = omega arith in
    let t : slice_get is k ≡ Some i = inst_there c.args.insts.now k c.index-insts-at.result l c.index-insts-at.is in
    let m : c.loop-at.at ≡ k + 1 = omega arith in
    record {
      within = omega arith;
      first = λ x.
          c.in_ok-keep.ensures x ∙ (ap (λ o. if is_number x o then Some k else kept c.loop-at.numbers x)
          c.result_id.ensures
          ∙ (ap (λ z. if is_number x (result_in i.operands) then Some k else z) (c.loop-at.invariant.first x)
          ∙ sym (position_step (λ j. is_number x (result_in j.operands)) is k c.loop-at.at i t m)));
    }
