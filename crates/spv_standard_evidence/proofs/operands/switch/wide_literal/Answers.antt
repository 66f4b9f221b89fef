use Rattle.std.proofs.Common.{◌≤◌, length, ap, below_more, arith}
use Rattle.std.proofs.lemmas.Bool.{iff_false}
use Rattle.std.proofs.lemmas.List.{length-map}
use Rattle.spv_module.specs.Module.{plain_inst, plain_operand}
use Rattle.spv_standard_evidence.proofs.Switched.{narrow_by}
use Rattle.spv_standard_evidence.proofs.operands.switch.wide_literal.Goals as goal

pub loop-k-preserved : goal.loop-k-preserved
loop-k-preserved c = below_more _ _ c.loop-k.invariant (iff_false c.is_wide_at.ensures c.if-is_wide_at.false)

pub returns : goal.returns
returns c =
    let os = (plain_inst c.args.inst.now).operands in
    let l = ap length c.as_slice-k-end.ensures.value in
    let m = length-map c.args.inst.now.operands plain_operand in
    let all : length os ≤ c.loop-k.k = omega (arith, l, m) in
    narrow_by os c.args.width c.loop-k.k all c.loop-k.invariant
