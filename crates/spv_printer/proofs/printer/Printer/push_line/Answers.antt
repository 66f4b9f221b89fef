use Rattle.std.proofs.Common.{◌++◌, ◌∙◌, ap, arith, string_bytes}
use Rattle.spv_printer.proofs.Texts.{line_ended, whatever}
use Rattle.spv_printer.proofs.printer.Printer.push_line.Goals as goal

pub returns-clause-line : goal.returns-clause-line
returns-clause-line c = λ before further line k s.
    let feed = c.in_ok-push.ensures.bytes ∙ ap (λ z. string_bytes c.push_inst.new.out ++ z)
    (c.in_ok-push.ensures.ascii (omega arith)) in
    whatever c.add.result _ (line_ended (string_bytes c.args.out.now) (string_bytes c.push_inst.new.out)
    (string_bytes c.push.new.self) line (c.in_ok-push_inst.ensures.line before further line (λ _. k) s) feed)
