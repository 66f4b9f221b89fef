use Rattle.std.proofs.Common.{take}
use Rattle.spv_module.specs.Module.{plain_operands}
use Rattle.spv_printer.specs.inner.Fast.{AreDrafted}
use Rattle.spv_printer.proofs.listed_line.add_all_listed.Given as goal

abbrev pub invariant-loop-operand : goal.invariant-loop-operand
invariant-loop-operand l =
    AreDrafted l.table l.printer.definitions (plain_operands (take l.operand-index l.operands)) l.draft l.buffer
