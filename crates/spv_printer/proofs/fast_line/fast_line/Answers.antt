use Rattle.std.proofs.Common.{◌<◌, ◌/◌, ◌%◌, ◌++◌, ◌∙◌, refl, sym, ap, arith, string_bytes}
use Rattle.spv_module.specs.Operand.{PlainInst}
use Rattle.spv_inst.proofs.Instructions.{is_instruction, front_of}
use Rattle.spv_printer.proofs.ImageLines.{other_width}
use Rattle.spv_printer.proofs.fast_line.fast_line.Goals as goal

pub returns : goal.returns
returns c =
    let G = c.args.table.now in
    let words = c.args.image.now in
    let head = c.word-head.result in
    let w = c.in-Some-add_operands.ensures in
    let i : PlainInst = record { opcode = head % 65536; operands = w.operands } in
    let f = front_of words c.args.at head c.len.result c.requires.fits c.word-head.ensures c.len.ensures.words
    c.if-count-eq0.false c.if-count-len.false in
    let n : head % 65536 < 65536 = omega arith in
    let v = c.word-head.type_inv in
    let l : head / 65536 < 65536 = omega arith in
    let e = c.in-Some.ensures in
    let li = w.line (head % 65536) c.if-opcode-eq-SWITCH.false in
    record {
      inst = i;
      some = omega (arith, c.if-count-eq0.false);
      within = omega (arith, c.if-count-len.false, c.len.ensures.words, c.requires.fits);
      read = λ before k. is_instruction G before words c.args.at (head / 65536)
          (head % 65536) c.in-Some.entry w.operands f n l e
          (rw c.operands-pattern.ensures at (w.matches before (head % 65536) k));
      text = λ before further line k s.
          c.in_ok-push_str.ensures.bytes
          ∙ ap (λ z. string_bytes c.args.out.now ++ z)
          (c.in-Some-whole_line.ensures G _ before i further line k li (sym e)
          (c.has.ensures G c.requires.ready.names c.if-not-has.false c.in-Some.entry (sym e)) s);
      told = record {
        opcode = refl;
        result = li.result;
        type_id = li.type_id;
        width = other_width i c.if-opcode-eq-TYPE_INT.false c.if-opcode-eq-TYPE_FLOAT.false;
      };
    }
