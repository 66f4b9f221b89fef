use Rattle.std.proofs.Common.{◌<◌, ◌≤◌, ℕ, map, get_or}
use Rattle.spv_versions.specs.declared.table.Kind.{Kind}
use Rattle.spv_versions.specs.inner.Lines.{IsListedAt, plain_line}
use Rattle.spv_versions.specs.inner.Told.{place_of, undated}
use Rattle.spv_versions.proofs.lines.least_numbers.Given as goal

abbrev pub invariant-loop-k : goal.invariant-loop-k
invariant-loop-k l = record {
  below : (j : ℕ) → j < l.k → (k : Kind) (n : ℕ) → IsListedAt (map plain_line l.lines) l.flags k n j
      → get_or l.least (place_of k) 0 ≤ n;
  start : (p : ℕ) → get_or l.least p 0 ≤ get_or undated p 0;
}
