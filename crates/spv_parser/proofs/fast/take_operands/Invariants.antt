use Rattle.std.proofs.Common.{List, map, length}
use Rattle.spv_module.specs.Operand.{PlainInst}
use Rattle.spv_inst.specs.Flat.{due}
use Rattle.spv_inst.specs.inner.Known.{Knows}
use Rattle.spv_inst.specs.inner.Pending.{due_first, items_of}
use Rattle.spv_parser.specs.inner.Fast.{FastSoFar}
use Rattle.spv_parser.specs.inner.Seen.{IsSeen}
use denote.Shadow.{shadow}
use denote.Text.{Utf8}
use Rattle.spv_parser.proofs.fast.take_operands.Given as goal

abbrev pub invariant-loop-next : goal.invariant-loop-next
invariant-loop-next l = shadow (Utf8 l.rest)
    × ((before : List PlainInst) → Knows l.setting.definitions.now before
    → FastSoFar l.setting.table.now l.start.line before l.opcode (map due (items_of l.pattern)) l.operands
    (due_first l.kinds l.items.left.now) l.rest l.words.items)
    × IsSeen l.setting.table.now l.seen

abbrev pub decreases-loop-next : goal.decreases-loop-next
decreases-loop-next l = length l.rest
