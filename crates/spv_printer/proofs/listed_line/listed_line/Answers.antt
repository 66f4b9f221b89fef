use Rattle.std.proofs.Common.{◌++◌, ◌∙◌, sym, ap, string_bytes}
use Rattle.spv_module.specs.Module.{plain_operands}
use Rattle.spv_module.specs.Operand.{PlainInst}
use Rattle.spv_printer.proofs.Drafts.{drafted_line}
use Rattle.spv_printer.proofs.ImageLines.{other_width}
use Rattle.spv_printer.proofs.listed_line.listed_line.Goals as goal

pub returns : goal.returns
returns c =
    let G = c.args.table.now in
    let i : PlainInst = record { opcode = c.args.opcode; operands = plain_operands c.args.operands.now } in
    let e = c.in-Some.ensures in
    let li = drafted_line G _ i _ _ c.if-opcode-eq-SWITCH.false c.in-Some-add_all_listed.ensures in
    record {
      text = λ before further line k s.
          c.in_ok-push_str.ensures.bytes
          ∙ ap (λ z. string_bytes c.args.out.now ++ z)
          (c.in-Some-whole_line.ensures G _ before i further line k li (sym e)
          (c.has.ensures G c.requires.ready.names c.if-not-has.false c.in-Some.entry (sym e)) s);
      result = li.result;
      type_id = li.type_id;
      width = other_width i c.if-opcode-eq-TYPE_INT.false c.if-opcode-eq-TYPE_FLOAT.false;
    }

pub whole_line-requires : goal.whole_line-requires
whole_line-requires c =
    record {
      low = c.in-Some-add_all_listed.ensures.low;
      within = c.in-Some-add_all_listed.ensures.within;
      utf8 = c.in-Some-add_all_listed.ensures.utf8;
    }
