use Rattle.std.proofs.Common.{◌≡◌, map, take}
use Rattle.spv_table.specs.Table as spec
use Rattle.spv_table.specs.inner.Form.{form_of}
use Rattle.spv_table.specs.inner.Front.{place_front}
use Rattle.spv_table.proofs.front.fronts_of.Given as goal

abbrev pub invariant-loop-place : goal.invariant-loop-place
invariant-loop-place l = (G : spec.Table) → l.forms ≡ map form_of G.kinds → l.fronts.items ≡ map (place_front G l.entries) (take l.place-index l.places)
