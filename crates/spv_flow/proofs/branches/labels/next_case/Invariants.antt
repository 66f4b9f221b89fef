use Rattle.std.proofs.Common.{◌≡◌, ◌<◌, ◌-◌, true, length}
use Rattle.spv_module.specs.declared.opcode.TheConstants as opcode
use Rattle.spv_module.specs.Module.{plain_operands}
use Rattle.spv_flow.specs.branches.inner.Labels.{is_label_at, AreSameCases}
use Rattle.spv_flow.proofs.branches.labels.next_case.Given as goal

abbrev pub invariant-loop-next : goal.invariant-loop-next
invariant-loop-next l = record {
  further : l.n < l.next;
  label : is_label_at opcode.SWITCH l.next ≡ true;
  same : AreSameCases (plain_operands l.operands) l.n l.next l.id;
}

abbrev pub decreases-loop-next : goal.decreases-loop-next
decreases-loop-next l = length l.operands - l.next
