use Rattle.std.proofs.Common.{◌≤◌, ◌-◌, List, length}
use Rattle.spv_table.specs.Table.{pattern_of}
use Rattle.spv_module.specs.Module.{plain_operands}
use Rattle.spv_module.specs.Operand.{PlainInst}
use Rattle.spv_inst.specs.inner.Pending.{pending_due}
use Rattle.spv_inst.specs.inner.Known.{Knows}
use Rattle.spv_form_evidence.proofs.lemmas.words.Walking.{Way}
use Rattle.spv_form_evidence.proofs.words.operands.failed_operand.Given as goal

abbrev pub invariant-turns : goal.invariant-turns
invariant-turns l = record {
  from : l.place.first ≤ l.at;
  upto : l.at ≤ l.place.end;
  few : length l.operands.items ≤ l.at;
  way : (before : List PlainInst) → Knows l.scene.definitions.now before
      → Way l.scene.table.now l.scene.definitions.now l.known before l.place.opcode (pattern_of l.entry)
      l.scene.image.now l.place.first l.at l.place.end (plain_operands l.operands.items) (pending_due
      l.scene.table.now l.pending);
}

abbrev pub decreases-turns : goal.decreases-turns
decreases-turns l = l.place.end - l.at
