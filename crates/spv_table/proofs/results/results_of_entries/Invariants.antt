use Rattle.std.proofs.Common.{◌≡◌, map, take}
use Rattle.spv_table.specs.Table as spec
use Rattle.spv_table.specs.inner.Form.{form_of}
use Rattle.spv_table.specs.inner.Results.{results_of}
use Rattle.spv_table.proofs.results.results_of_entries.Given as goal

abbrev pub invariant-loop-entry : goal.invariant-loop-entry
invariant-loop-entry l = (G : spec.Table) → l.forms ≡ map form_of G.kinds → l.results.items ≡ map (λ e. results_of G e.1) (take l.entry-index l.entries)
