use Rattle.std.proofs.Common.{◌≡◌, ◌≤◌, ◌<◌, ◌-◌, ℕ, Some, length, map}
use Rattle.std.specs.Prelude.{slice_get}
use Rattle.spv_module.specs.declared.opcode.TheConstants as opcode
use Rattle.spv_module.specs.Operand.{PlainInst}
use Rattle.spv_module.specs.Module.{plain_inst}
use Rattle.spv_flow.proofs.branches.branches.next_asked.Given as goal

abbrev pub invariant-loop-at : goal.invariant-loop-at
invariant-loop-at l = record {
  within : l.at ≤ length l.insts;
  further : l.from ≤ l.at;
  passed : (n : ℕ) (i : PlainInst) → l.from ≤ n → n < l.at → slice_get (map plain_inst l.insts) n ≡ Some i
      → i.opcode < opcode.PHI;
}

abbrev pub decreases-loop-at : goal.decreases-loop-at
decreases-loop-at l = length l.insts - l.at
