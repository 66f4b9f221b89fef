use Rattle.std.proofs.Common.{◌≡◌, ◌↔◌, ◌<◌, ◌≤◌, ℕ, true, false, Some, IsTrue, length, get_or}
use Rattle.std.specs.Prelude.{slice_get}
use Rattle.spv_versions.specs.Table.{IsBefore}
use Rattle.spv_versions.specs.inner.Lines.{Read}
use Rattle.spv_versions.proofs.lines.lacking.Given as goal

abbrev pub invariant-loop-k : goal.invariant-loop-k
invariant-loop-k l = record {
  count : length l.flags ≡ 97;
  below : (j : ℕ) (r : Read) → j < l.k → slice_get l.lines j ≡ Some r
      → IsTrue (get_or l.flags j false) ↔ IsBefore l.minor r.3;
  above : (j : ℕ) → l.k ≤ j → j < 97 → get_or l.flags j false ≡ true;
}
