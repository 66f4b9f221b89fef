use Rattle.std.proofs.Common.{option_map, subst}
use Rattle.spv_check.specs.Answer.{IsAnswer}
use Rattle.spv_explain.proofs.Objects.{fault_checked, valid_checked}
use Rattle.spv_explain.proofs.answers.checked_answer.Goals as goal

pub returns-in-Ok-Valid : goal.returns-in-Ok-Valid
returns-in-Ok-Valid c = λ bytes order h.
    let r = subst (λ v. IsAnswer c.args.table.now c.args.reach c.args.image.now v) c.in-Ok-Valid.field-0-is
    c.in-Ok-Valid.ensures.verdict in
    valid_checked c.args.table.now c.args.reach
    (option_map (λ n. n.now) c.args.name) bytes c.args.image.now order c.in-Ok-Valid.field-0-0
    c.verdict_answer.result h r c.verdict_answer.ensures.judgment c.verdict_answer.ensures.text

pub returns-in-Ok-Fault : goal.returns-in-Ok-Fault
returns-in-Ok-Fault c = λ bytes order h.
    let r = subst (λ v. IsAnswer c.args.table.now c.args.reach c.args.image.now v) c.in-Ok-Fault.field-0-is
    c.in-Ok-Fault.ensures.verdict in
    fault_checked c.args.table.now c.args.reach
    (option_map (λ n. n.now) c.args.name) bytes c.args.image.now order c.in-Ok-Fault.fault
    c.verdict_answer-in-Ok-Fault.result h r c.verdict_answer-in-Ok-Fault.ensures.judgment
    c.verdict_answer-in-Ok-Fault.ensures.text
