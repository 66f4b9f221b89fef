use Rattle.std.proofs.Common.{ℕ, ◌<◌, map}
use Rattle.spv_table.specs.Table.{Table}
use Rattle.spv_module.specs.Module.{plain_inst}
use Rattle.spv_layout.specs.Plan.{IsPlan}
use Rattle.spv_form_evidence.specs.ids.inner.Uses.{HasUse}
use Rattle.spv_form_evidence.specs.ids.inner.Order.{IsDisordered}
use Rattle.spv_form_evidence.proofs.ids.order.not_in_order.Given as goal

abbrev pub invariant-loop-k : goal.invariant-loop-k
invariant-loop-k l = (G : Table) → IsPlan G (map plain_inst l.insts) l.plan → (k : ℕ) → k < l.k
    → (m : ℕ) → ¬ (HasUse G (plain_inst l.inst) (IsDisordered l.bound (map plain_inst l.insts) l.at m) k)
