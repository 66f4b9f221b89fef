use Rattle.std.proofs.Common.{◌≡◌, length, get_or, arith}
use Rattle.std.proofs.lemmas.List.{length-map}
use Rattle.spv_module.specs.Module.{plain_operand, plain_operands}
use Rattle.spv_module.specs.declared.operand.Operand.{Operand}
use Rattle.spv_module.specs.declared.operand.Operand.TheVariants.{OfType}
use Rattle.spv_type_rules.proofs.Same.{operand_there}
use Rattle.spv_form_evidence.proofs.lemmas.capabilities.Needed.{one_more, all_before}
use Rattle.spv_form_evidence.proofs.capabilities.needs.uncovered_operand.Goals as goal

pub loop-number-preserved : goal.loop-number-preserved
loop-number-preserved c =
    let n = c.loop-number.number in
    let o : Operand = OfType 0 in
    let t = operand_there c.args.operands.now n o c.loop-number-test.true in
    let s = c.args.survey.now in
    let os = plain_operands c.args.operands.now in
    let p = plain_operand (get_or c.args.operands.now n o) in
    one_more s.table s.insts os n p c.loop-number.invariant t c.in_default.ensures

pub returns : goal.returns
returns c =
    let os = plain_operands c.args.operands.now in
    let m = length-map c.args.operands.now plain_operand in
    let e : c.loop-number.number ≡ length os = omega (arith, m) in
    all_before c.args.survey.now.table c.args.survey.now.insts os c.loop-number.number e c.loop-number.invariant
