use Rattle.std.proofs.Common.{[], string_bytes}
use Rattle.spv_module.specs.Module.{plain_insts}
use Rattle.spv_lines.specs.Text.{header_lines}
use Rattle.spv_lines.proofs.Showing.{shown_lines}
use Rattle.spv_printer.proofs.Texts.{whole_text}
use Rattle.spv_printer.proofs.shown.show_listed.Goals as goal

pub returns : goal.returns
returns c =
    let a = shown_lines c.args.table.now [] (plain_insts c.args.module.now) c.requires.0 c.requires.1 in
    record {
      lines = a.lines;
      shown = a.shown;
      all = whole_text (header_lines c.args.module.now.header) a.lines (string_bytes c.push_header.new.out)
          (string_bytes c.push_lines.new.out)
          (string_bytes c.in_ok-out.out) c.in_ok-out.ensures.bytes c.in_ok-push_header.ensures
          (c.in_ok-push_lines.ensures a.lines a.shown);
    }
