use Rattle.std.proofs.Common.{arith}
use Rattle.spv_inst.specs.inner.Pending.{plain_slot}
use Rattle.spv_parser.proofs.Taken.{front_step}
use Rattle.spv_parser.proofs.operands.take_result.Goals as goal

pub returns : goal.returns
returns c = λ d h e n b.
    front_step c.args.table.now c.args.id d (plain_slot c.args.asked.slot) c.args.rest.now c.and_then.result _ _ _ _
    (omega arith) e n b c.in_ok-put_operand.ensures.words c.in_ok-put_operand.ensures.due
    (c.and_then.ensures d.opcode d.operands h)
