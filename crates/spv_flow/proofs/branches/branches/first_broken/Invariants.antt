use Rattle.std.proofs.Common.{◌≡◌, ◌≤◌, ◌<◌, ◌-◌, ℕ, false, length}
use Rattle.spv_table.specs.Table.{Table}
use Rattle.spv_module.specs.declared.fault.Rule.{Rule}
use Rattle.spv_layout.specs.Stage.{of_branches}
use Rattle.spv_layout.specs.First.{stage_of}
use Rattle.spv_flow.specs.branches.inner.Code.{insts_of, IsCode}
use Rattle.spv_flow.specs.branches.Broken.{Broken}
use Rattle.spv_flow.specs.branches.inner.Edges.{marked}
use Rattle.spv_flow.proofs.branches.branches.first_broken.Given as goal

abbrev pub invariant-loop-at : goal.invariant-loop-at
invariant-loop-at l = record {
  within : l.at ≤ length l.code.insts.now;
  clean : (p : ℕ) → marked l.marks p ≡ false;
  unbroken : (G : Table) → IsCode G l.code → (q : Rule) (m : ℕ) → m < l.at → stage_of q ≡ of_branches
      → ¬ (Broken l.fork G (insts_of l.code) q m);
}

abbrev pub decreases-loop-at : goal.decreases-loop-at
decreases-loop-at l = length l.code.insts.now - l.at
