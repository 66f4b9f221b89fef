use Rattle.spv_inst.specs.inner.Pending.{plain_slot}
use Rattle.spv_parser.proofs.Taken.{text_step, text_refused}
use Rattle.spv_parser.proofs.operands.take_text.Goals as goal

pub returns-in_default-clause-refused : goal.returns-in_default-clause-refused
returns-in_default-clause-refused c =
    λ r d e. text_refused c.args.table.now r d (plain_slot c.args.asked.slot) c.args.rest.now e
    (rw c.in_default.is at c.in_ok-behind.ensures)

pub returns-clause-taken : goal.returns-clause-taken
returns-clause-taken c = λ r d h e.
    let q = rw c.in-Some.is at c.in_ok-behind.ensures in
    let q' = rw (← c.as_str.ensures.value) at q in
    text_step c.args.table.now r d (plain_slot c.args.asked.slot) c.args.rest.now c.as_str.result.now
    c.in-Some.behind.now c.and_then.result _ _ _ _ e q' c.read_text.ensures c.in_ok-put_operand.ensures.words
    c.in_ok-put_operand.ensures.due
    (c.and_then.ensures d.opcode d.operands h)
