use Rattle.std.proofs.Common.{List, map}
use Rattle.spv_module.specs.Operand.{PlainInst}
use Rattle.spv_inst.specs.inner.Known.{Knows}
use Rattle.spv_inst.specs.Flat.{due}
use Rattle.spv_inst.specs.inner.Pending.{items_of, pending_due}
use Rattle.spv_printer.proofs.Progress.{At}
use Rattle.spv_printer.proofs.encoder.write_operands.Given as goal

abbrev pub invariant-loop-number : goal.invariant-loop-number
invariant-loop-number l =
    (before : List PlainInst) → Knows l.setting.definitions.now before
    → At l.setting.table.now l.setting.definitions.now before l.inst.opcode
    (map due (items_of l.pattern)) l.inst.operands l.known
    (pending_due l.setting.table.now l.pending) l.words.items l.number
