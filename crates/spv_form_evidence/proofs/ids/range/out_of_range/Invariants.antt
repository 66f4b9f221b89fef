use Rattle.std.proofs.Common.{ℕ, ◌<◌}
use Rattle.spv_table.specs.Table.{Table}
use Rattle.spv_module.specs.Module.{plain_inst}
use Rattle.spv_layout.specs.Shape.{FitsShape}
use Rattle.spv_form_evidence.specs.ids.inner.Range.{IsAstray}
use Rattle.spv_form_evidence.proofs.ids.range.out_of_range.Given as goal

abbrev pub invariant-loop-k : goal.invariant-loop-k
invariant-loop-k l = (G : Table) → FitsShape G (plain_inst l.inst) → (k : ℕ) → k < l.k
    → ¬ (IsAstray G l.bound (plain_inst l.inst) k)
