use Rattle.std.proofs.Common.{◌≡◌, ◌∙◌, List, length, ap}
use Rattle.spv_module.specs.declared.operand.Operand.{Operand}
use Rattle.spv_module.specs.Module.{plain_operands}
use Rattle.spv_module.specs.Operand.{PlainInst}
use Rattle.spv_printer.proofs.ImageLines.{line_of}
use Rattle.spv_printer.proofs.image.push_read.Goals as goal

pub returns-clause-next : goal.returns-clause-next
returns-clause-next c = λ before k.
    let G = c.args.table.now in
    let x = c.in_ok-read.read in
    let os = c.read_apart.new.operands.items in
    let v = c.as_slice.ensures.value in
    let i : PlainInst = record { opcode = x.opcode; operands = plain_operands os } in
    let f : x.first ≡ 0 = c.in_ok-read.ensures.kept.0 ∙ ap (λ (zs : List Operand). length zs) c.clear.ensures.items in
    let b = rw f at (c.in_ok-read.ensures.read before k) in
    let l = line_of G before i _ b in
    record {
      inst = i;
      further = l.further;
      line = l.line;
      some = c.in_ok-read.ensures.within.0;
      within = c.in_ok-read.ensures.within.1;
      read = b;
      shown = l.shown;
      text = c.in_ok-push_line.ensures.line before l.further l.line k (rw v l.shown);
      knows = rw v at (c.in_ok-push_line.ensures.knows before k);
    }
