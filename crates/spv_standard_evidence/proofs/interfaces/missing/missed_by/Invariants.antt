use Rattle.spv_table.specs.Table.{Table}
use Rattle.spv_module.specs.Module.{plain_inst}
use Rattle.spv_layout.specs.Shape.{FitsShape}
use Rattle.spv_declarations.specs.inner.Sets.{IsIn}
use Rattle.spv_standard_evidence.proofs.Missed.{NoneMissed}
use Rattle.spv_standard_evidence.proofs.interfaces.missing.missed_by.Given as goal

abbrev pub invariant-loop-at : goal.invariant-loop-at
invariant-loop-at l = (G : Table) → FitsShape G (plain_inst l.inst)
    → NoneMissed G l.minor l.definitions (IsIn l.named) (plain_inst l.inst) l.at
