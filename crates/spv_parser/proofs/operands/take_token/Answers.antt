use Rattle.spv_module.specs.Module.{plain_operand}
use Rattle.spv_inst.specs.inner.Pending.{plain_slot}
use Rattle.spv_parser.proofs.Taken.{token_step, token_refused}
use Rattle.spv_parser.proofs.operands.take_token.Goals as goal

pub returns-in_ok-put_operand-in-Ok-clause-taken : goal.returns-in_ok-put_operand-in-Ok-clause-taken
returns-in_ok-put_operand-in-Ok-clause-taken c = λ r d a t.
    token_step c.args.setting.now.table.now r d
    (plain_slot c.args.asked.slot) c.args.rest.now c.split_token.result.0.now c.split_token.result.1.now
    (plain_operand c.in-Ok.operand) c.args.asked.leaf c.and_then.result _ _ _ _ t.form t.behind
    c.split_token.ensures.token c.split_token.ensures.rest
    (c.in-Ok.ensures d a t.form t.no_text) c.in_ok-put_operand-in-Ok.ensures.words
    c.in_ok-put_operand-in-Ok.ensures.due (c.and_then.ensures d.opcode d.operands a.operands)

pub returns-in-Err-clause-refused : goal.returns-in-Err-clause-refused
returns-in-Err-clause-refused c = λ r d a t.
    rw c.code_of.ensures (token_refused c.args.setting.now.table.now r d
    (plain_slot c.args.asked.slot) c.args.rest.now c.split_token.result.0.now c.split_token.result.1.now
    c.in-Err.why c.args.asked.leaf t.form t.no_text t.behind
    c.split_token.ensures.token c.split_token.ensures.rest (c.in-Err.ensures d a t.form t.no_text))
