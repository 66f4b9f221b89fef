use Rattle.std.proofs.Common.{◌<◌, ℕ, map}
use Rattle.spv_table.specs.inner.Named.{Bears}
use Rattle.spv_table.specs.inner.Rows.{told}
use Rattle.spv_table.proofs.named_rows.bearer.Given as goal

abbrev pub invariant-loop-slot : goal.invariant-loop-slot
invariant-loop-slot g l = (k : ℕ) → k < l.slot → Bears (map (told l.text g.R.NamedRow.span) l.rows) l.slots l.name k → ⊥
