use Rattle.std.proofs.Common.{◌+◌, List, map, length}
use Rattle.spv_module.specs.Operand.{PlainInst}
use Rattle.spv_inst.specs.Flat.{due}
use Rattle.spv_inst.specs.inner.Known.{Knows}
use Rattle.spv_inst.specs.inner.Pending.{items_of, pending_due}
use Rattle.spv_lines.proofs.Walking.{waiting}
use Rattle.spv_parser.specs.inner.Reading.{SoFar}
use Rattle.spv_parser.proofs.Halting.{StopSoFar}
use denote.Shadow.{shadow}
use denote.Text.{Utf8}
use Rattle.spv_parser.proofs.stops.operands_or_stop.Given as goal

abbrev pub invariant-loop-more : goal.invariant-loop-more
invariant-loop-more l = shadow (Utf8 l.rest) × ((before : List PlainInst) → Knows l.setting.definitions.now before
    → SoFar l.setting.table.now l.result_id before l.opcode (map due (items_of l.pattern)) l.operands l.known
    (pending_due l.setting.table.now l.buffers.pending) l.rest l.buffers.words.items
    × StopSoFar l.setting.table.now l.result_id before l.opcode (map due (items_of l.pattern)) l.operands l.known
    (pending_due l.setting.table.now l.buffers.pending) l.rest)

abbrev pub decreases-loop-more : goal.decreases-loop-more
decreases-loop-more l = length l.rest + waiting l.known.result
