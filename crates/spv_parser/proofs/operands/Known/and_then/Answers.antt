use Rattle.std.proofs.Common.{◌∙◌, ap, refl}
use Rattle.std.specs.Option.{option_or}
use Rattle.spv_module.specs.Module.{plain_operand}
use Rattle.spv_parser.proofs.Begins.{of_more, count_none, count_some}
use Rattle.spv_parser.proofs.operands.Known.and_then.Goals as goal

pub returns-then-self-eq0 : goal.returns-then-self-eq0
returns-then-self-eq0 c = λ opcode os h.
    of_more c.args.self _ opcode os (plain_operand c.args.operand.now) refl
    (c.or.ensures ∙ ap (option_or c.args.self.result) c.result_in.ensures)
    (c.or-2.ensures ∙ ap (option_or c.args.self.type_id) c.type_in.ensures) c.first_after.ensures
    c.width_after.ensures
    (count_none c.args.self.count c.if-self-eq0.true) h

pub returns-else-self-eq0 : goal.returns-else-self-eq0
returns-else-self-eq0 c = λ opcode os h.
    of_more c.args.self _ opcode os (plain_operand c.args.operand.now) refl
    (c.or.ensures ∙ ap (option_or c.args.self.result) c.result_in.ensures)
    (c.or-2.ensures ∙ ap (option_or c.args.self.type_id) c.type_in.ensures) c.first_after.ensures
    c.width_after.ensures
    (count_some c.args.self.count c.if-self-eq0.false) h
