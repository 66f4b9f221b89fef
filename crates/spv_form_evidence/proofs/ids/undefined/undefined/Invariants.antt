use Rattle.std.proofs.Common.{ℕ, ◌<◌, map}
use Rattle.spv_table.specs.Table.{Table}
use Rattle.spv_module.specs.Module.{plain_inst}
use Rattle.spv_layout.specs.Shape.{FitsShape}
use Rattle.spv_form_evidence.specs.ids.inner.Uses.{HasNamed}
use Rattle.spv_form_evidence.specs.ids.inner.Undefined.{IsUndefined}
use Rattle.spv_form_evidence.proofs.ids.undefined.undefined.Given as goal

abbrev pub invariant-loop-k : goal.invariant-loop-k
invariant-loop-k l = (G : Table) → FitsShape G (plain_inst l.inst) → (k : ℕ) → k < l.k
    → ¬ (HasNamed G (plain_inst l.inst) (IsUndefined l.bound (map plain_inst l.insts)) k)
