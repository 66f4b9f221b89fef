use Rattle.std.proofs.Common.{◌∙◌, refl, sym, string_bytes}
use Rattle.spv_module.specs.Module.{plain_operand}
use Rattle.spv_inst.specs.inner.Pending.{plain_slot}
use Rattle.spv_printer.proofs.Operands.{front_added, other_added, one_of, kept_by}
use Rattle.spv_printer.proofs.operand.push_piece.Goals as goal

pub returns-then-is_in_front-clause-text : goal.returns-then-is_in_front-clause-text
returns-then-is_in_front-clause-text c = λ d r ws p ss a b e t q.
    front_added c.args.table.now r d (plain_slot c.args.asked.slot)
    (plain_operand c.args.operand.now) p _ _ c.args.has_result b q
    (sym c.is_in_front.ensures ∙ c.if-is_in_front.true) refl

pub returns-then-is_in_front-clause-result : goal.returns-then-is_in_front-clause-result
returns-then-is_in_front-clause-result c =
    one_of c.args.has_result _ (sym c.is_in_front.ensures ∙ c.if-is_in_front.true)

pub returns-clause-text : goal.returns-clause-text
returns-clause-text c = λ d r ws p ss a b e t q.
    let s = plain_slot c.args.asked.slot in
    let G = c.args.table.now in
    other_added G r d s (plain_operand c.args.operand.now) p (string_bytes c.args.out.now)
    (string_bytes c.push_operand.new.out) c.args.has_result _ b q
    (sym c.is_in_front.ensures ∙ c.if-is_in_front.false)
    (c.is_hexadecimal-hexadecimal.ensures G d s ws ss a e t) c.in_ok-push_operand.ensures.text

pub returns-clause-result : goal.returns-clause-result
returns-clause-result c = kept_by c.args.has_result _ (sym c.is_in_front.ensures ∙ c.if-is_in_front.false)
