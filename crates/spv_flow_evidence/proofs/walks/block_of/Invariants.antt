use Rattle.std.proofs.Common.{◌≤◌, ◌-◌}
use Rattle.std.specs.Prelude.{slice_index}
use Rattle.spv_flow_evidence.proofs.walks.block_of.Given as goal

abbrev pub invariant-loop-next : goal.invariant-loop-next
invariant-loop-next l = slice_index l.blocks.starts.now (l.next - 1) ≤ l.inst
