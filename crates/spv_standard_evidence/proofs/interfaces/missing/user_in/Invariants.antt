use Rattle.spv_table.specs.Table.{Table}
use Rattle.spv_declarations.specs.inner.Sets.{IsIn}
use Rattle.spv_interfaces.specs.inner.Uses.{Fit}
use Rattle.spv_standard_evidence.proofs.Missed.{NoUser}
use Rattle.spv_standard_evidence.proofs.interfaces.missing.user_in.Given as goal

abbrev pub invariant-loop-number : goal.invariant-loop-number
invariant-loop-number l = (G : Table) → Fit G l.definitions
    → NoUser G l.minor l.definitions (IsIn l.named) l.function l.number
