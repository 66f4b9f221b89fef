use Rattle.std.proofs.Common.{◌≡◌, ◌<◌, ℕ, true}
use Rattle.std.specs.Prelude.{codes}
use Rattle.spv_table.specs.Table.{Table}
use Rattle.spv_table.specs.Lookups.{number_named}
use Rattle.spv_declarations.specs.Decorated.{IsInitialized}
use Rattle.spv_declarations.proofs.initialized.first_initialized.Given as goal

abbrev pub invariant-loop-number : goal.invariant-loop-number
invariant-loop-number l = (G : Table)
    → (l.fn.front.kinds.initialized ≡ true → l.fn.linkage ≡ number_named G (codes "LinkageType")) → (k : ℕ)
    → k < l.number → ¬ (IsInitialized G l.definitions k)
