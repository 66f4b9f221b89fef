use Rattle.std.proofs.Common.{◌≡◌, ℕ, List, [], map, take, string_bytes}
use Rattle.spv_inst.specs.inner.Known.{Knows}
use Rattle.spv_module.specs.Module.{plain_inst}
use Rattle.spv_lines.specs.Text.{ShownLines, ended, inst_line}
use Rattle.spv_printer.specs.inner.Printer.{IsReady}
use Rattle.spv_printer.proofs.inst.show_insts.Given as goal

abbrev pub invariant-loop-number : goal.invariant-loop-number
invariant-loop-number l = record {
  knows : Knows l.printer.definitions (map plain_inst (take l.known l.insts));
  ready : IsReady l.table l.printer;
  text : (lines : List (List ℕ)) → ShownLines l.table [] (map plain_inst l.insts) lines
      → string_bytes l.out ≡ ended (map (inst_line lines) (take l.number-index l.numbers));
}
