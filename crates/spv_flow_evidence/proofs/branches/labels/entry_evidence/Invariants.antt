use Rattle.std.proofs.Common.{◌<◌, ℕ}
use Rattle.spv_table.specs.Table.{Table}
use Rattle.spv_layout.specs.declared.form.Role.TheVariants.{Label}
use Rattle.spv_ids.specs.Definition.{IsUsedAt}
use Rattle.spv_flow.specs.branches.inner.Code.{insts_of, IsCode}
use Rattle.spv_flow_evidence.specs.branches.inner.Known.{IsEntryId}
use Rattle.spv_flow_evidence.proofs.branches.labels.entry_evidence.Given as goal

abbrev pub invariant-loop-k : goal.invariant-loop-k
invariant-loop-k l = (G : Table) → IsCode G l.code → (j x : ℕ) → j < l.k → IsUsedAt G (insts_of l.code) l.at j x Label
    → ¬ (IsEntryId (insts_of l.code) x)
