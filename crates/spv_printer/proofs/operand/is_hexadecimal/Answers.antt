use Rattle.std.proofs.Common.{◌∙◌, false, ap}
use Rattle.spv_module.specs.Module.{plain_operand}
use Rattle.spv_lines.specs.Operand.{is_float_type}
use Rattle.spv_printer.specs.inner.Printer.{is_number}
use Rattle.spv_printer.proofs.Operands.{shown_context, shown_switch, shown_no_switch}
use Rattle.spv_printer.proofs.operand.is_hexadecimal.Goals as goal

pub returns-in-ContextNumber : goal.returns-in-ContextNumber
returns-in-ContextNumber c = λ G d s ws ss a e t.
    let n = a (ap is_number c.in-Number.is) in
    shown_context c.args.definitions.now c.args.known G d s c.args.leaf c.is_float.result
    (plain_operand c.args.operand.now) n e c.in-ContextNumber.is (c.is_float.ensures d.before n.definitions)

pub returns-in-Some : goal.returns-in-Some
returns-in-Some c = λ G d s ws ss a e t.
    let n = a (ap is_number c.in-Number.is) in
    shown_switch c.args.definitions.now c.args.known G d s c.args.leaf c.is_float-in-Some.result c.in-Some.id
    (plain_operand c.args.operand.now) _ _ _ ws ss
    (ap plain_operand c.in-Number.is) n e c.in_default-leaf.not-ContextNumber t c.in-Some.is
    (c.is_float-in-Some.ensures d.before n.definitions
    ∙ ap (is_float_type d.before) (c.type_id.ensures d.before n.definitions))

pub returns-in-None : goal.returns-in-None
returns-in-None c = λ G d s ws ss a e t.
    let n = a (ap is_number c.in-Number.is) in
    shown_no_switch c.args.definitions.now c.args.known G d s c.args.leaf false
    (plain_operand c.args.operand.now) _ _ _ ws ss
    (ap plain_operand c.in-Number.is) n e c.in_default-leaf.not-ContextNumber t c.in-None.is
