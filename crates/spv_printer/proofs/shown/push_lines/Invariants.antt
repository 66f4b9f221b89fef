use Rattle.std.proofs.Common.{ℕ, List, [], map, take, string_bytes}
use Rattle.spv_inst.specs.inner.Known.{Knows}
use Rattle.spv_module.specs.Module.{plain_inst, plain_insts}
use Rattle.spv_lines.specs.Text.{ShownLines}
use Rattle.spv_printer.specs.inner.Printer.{IsReady}
use Rattle.spv_printer.proofs.Texts.{LinesAt}
use Rattle.spv_printer.proofs.shown.push_lines.Given as goal

abbrev pub invariant-loop-inst : goal.invariant-loop-inst
invariant-loop-inst l = record {
  knows : Knows l.printer.definitions (map plain_inst (take l.inst-index l.module.insts.items));
  shown : (lines : List (List ℕ)) → ShownLines l.table [] (plain_insts l.module) lines
      → LinesAt l.table l.module.insts.items lines (string_bytes l.fn.out) (string_bytes l.out) l.inst-index;
  ready : IsReady l.table l.printer;
}
