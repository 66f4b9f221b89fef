use Rattle.std.proofs.Common.{◌++◌, ◌∙◌, ap, arith, string_bytes}
use Rattle.spv_module.specs.Module.{plain_operand}
use Rattle.spv_lines.specs.Operand.{shown_operand}
use Rattle.spv_printer.proofs.Operands.{behind_space, mask_written}
use Rattle.spv_printer.proofs.operand.push_operand.Goals as goal

pub returns-in-Mask-clause-text : goal.returns-in-Mask-clause-text
returns-in-Mask-clause-text c =
    let old = string_bytes c.args.out.now in
    let mid = string_bytes c.push.new.self in
    let G = c.args.table.now in
    let m = mask_written c.push_mask.result G c.args.hexadecimal c.args.operand.now _ _
    (string_bytes c.push_mask.new.out) mid c.in-Mask.is c.push_mask.ensures.text in
    behind_space c.push_mask.result old mid (string_bytes c.push_mask.new.out)
    (shown_operand G c.args.hexadecimal (plain_operand c.args.operand.now))
    (c.in_ok-push.ensures.bytes ∙ ap (λ z. old ++ z) (c.in_ok-push.ensures.ascii (omega arith))) m
