use Rattle.std.proofs.Common.{◌∙◌, sym}
use Rattle.spv_ids.specs.inner.Survey.{insts_of}
use Rattle.spv_ids.proofs.Behind.{least_argument, least_mention, no_bad_operand}
use Rattle.spv_ids.proofs.survey.Survey.operand_fault.Goals as goal

pub returns-in-Some : goal.returns-in-Some
returns-in-Some c =
    let s = c.args.self.now in
    least_argument s.bound (insts_of s) c.args.inst _ c.in-Some.id c.use_fault.result
    (sym c.argument_id.ensures ∙ c.in-Some.is) c.use_fault.ensures

pub returns-in-Some-mention_id : goal.returns-in-Some-mention_id
returns-in-Some-mention_id c =
    let s = c.args.self.now in
    least_mention s.bound (insts_of s) c.args.inst _ c.in-Some-mention_id.id c.mention_fault.result
    (sym c.mention_id.ensures ∙ c.in-Some-mention_id.is) c.mention_fault.ensures

pub returns : goal.returns
returns c = λ q b.
    let s = c.args.self.now in
    no_bad_operand s.bound (insts_of s) c.args.inst _ q (sym c.argument_id.ensures ∙ c.in_default.is)
    (sym c.mention_id.ensures ∙ c.in_default-mention_id.is) b
