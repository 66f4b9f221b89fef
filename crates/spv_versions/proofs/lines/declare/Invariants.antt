use Rattle.std.proofs.Common.{◌≡◌, ◌<◌, ◌≤◌, ◌&&◌, ℕ, false, not, Some, get_or}
use Rattle.std.specs.Prelude.{slice_get}
use Rattle.spv_versions.specs.inner.Lines.{Read, names_have}
use Rattle.spv_versions.proofs.lines.declare.Given as goal

abbrev pub invariant-loop-k : goal.invariant-loop-k
invariant-loop-k l = record {
  below : (j : ℕ) (r : Read) → j < l.k → slice_get l.lines j ≡ Some r
      → get_or l.flags j false ≡ (get_or l.initial.flags j false && not (names_have r.4.now l.name));
  above : (j : ℕ) → l.k ≤ j → get_or l.flags j false ≡ get_or l.initial.flags j false;
}
