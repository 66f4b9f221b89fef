use Rattle.std.proofs.Common.{◌≡◌, map, drop}
use Rattle.spv_table.specs.Table as spec
use Rattle.spv_table.specs.inner.Form.{form_of}
use Rattle.spv_table.specs.inner.Front.{ids_in, items_in}
use Rattle.spv_table.proofs.front.ids_of.Given as goal

abbrev pub invariant-loop-i : goal.invariant-loop-i
invariant-loop-i l = (G : spec.Table) → l.forms ≡ map form_of G.kinds → l.ids ≡ ids_in G (items_in (drop l.i l.items))
