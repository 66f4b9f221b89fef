use Rattle.std.proofs.Common.{◌-◌, string_bytes}
use Rattle.spv_printer.specs.inner.Printer.{IsReady}
use Rattle.spv_printer.proofs.ImageLines.{ShownUpto}
use Rattle.spv_printer.proofs.image.push_image.Given as goal

abbrev pub invariant-loop-at : goal.invariant-loop-at
invariant-loop-at l = record {
  upto : ShownUpto l.table l.image (string_bytes l.fn.out)
      (string_bytes l.out) l.printer.printer.definitions l.number l.at;
  ready : IsReady l.table l.printer.printer;
}

abbrev pub decreases-loop-at : goal.decreases-loop-at
decreases-loop-at l = l.len - l.at
