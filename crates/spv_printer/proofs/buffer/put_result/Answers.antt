use Rattle.std.proofs.Common.{◌<◌, ◌^◌, ◌++◌, ◌∙◌, sym, ap, arith, append_assoc, drop}
use Rattle.std.specs.Prelude.{codes}
use Rattle.spv_lines.specs.Operand.{id_text}
use Rattle.spv_printer.proofs.Digits.{front_utf8}
use Rattle.spv_printer.proofs.Pieces.{behind_space}
use Rattle.spv_printer.proofs.buffer.put_result.Goals as goal

pub returns-clause-text : goal.returns-clause-text
returns-clause-text c =
    let n = c.in-Some.id in
    let e = behind_space c.put_id.new.buffer
    (drop c.put_octets-equals.result c.put_octets-equals.new.buffer) c.put_id.result n c.put_id.ensures.text in
    rw c.in-Some.is (e ∙ (ap (λ z. id_text n ++ z) c.put_octets-equals.ensures.text
    ∙ sym (append_assoc (id_text n) (codes " = ") (drop c.args.end c.args.buffer.now))))

pub returns-clause-utf8 : goal.returns-clause-utf8
returns-clause-utf8 c = let l : c.in-Some.id < 2 ^ 64 = omega arith in rw c.in-Some.is (front_utf8 c.in-Some.id l)
