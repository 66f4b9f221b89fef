use Rattle.std.proofs.Common.{◌<◌, ℕ}
use Rattle.spv_table.specs.Table.{Table}
use Rattle.spv_layout.specs.declared.form.Role.TheVariants.{Label}
use Rattle.spv_ids.specs.Definition.{IsUsedAt}
use Rattle.spv_flow.specs.branches.inner.Code.{insts_of, IsCode}
use Rattle.spv_flow.specs.branches.Target.{IsLabelOf}
use Rattle.spv_flow.proofs.branches.faults.has_labels.Given as goal

abbrev pub invariant-loop-n : goal.invariant-loop-n
invariant-loop-n l = (G : Table) → IsCode G l.code → (k x : ℕ) → k < l.n → IsUsedAt G (insts_of l.code) l.at k x Label
    → (m : ℕ) × IsLabelOf (insts_of l.code) x m
