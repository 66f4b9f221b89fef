use Rattle.std.proofs.Common.{ℕ, ◌<◌}
use Rattle.spv_table.specs.Table.{Table}
use Rattle.spv_module.specs.Module.{plain_inst, plain_insts}
use Rattle.spv_layout.specs.Shape.{FitsShape}
use Rattle.spv_form_evidence.specs.ids.inner.Uses.{HasUse}
use Rattle.spv_form_evidence.specs.ids.inner.Casts.{IsMiscast}
use Rattle.spv_form_evidence.proofs.ids.roles.role_evidence.Given as goal

abbrev pub invariant-loop-k : goal.invariant-loop-k
invariant-loop-k l = (G : Table) → FitsShape G (plain_inst l.there) → (k : ℕ) → k < l.k
    → ¬ (HasUse G (plain_inst l.there) (IsMiscast (plain_insts l.module)) k)
