use Rattle.std.proofs.Common.{◌<◌, ℕ, map}
use Rattle.spv_versions.specs.inner.Lines.{IsListedAt, plain_line}
use Rattle.spv_versions.proofs.lines.listed_line.Given as goal

abbrev pub invariant-loop-k : goal.invariant-loop-k
invariant-loop-k l = (j : ℕ) → j < l.k → ¬ (IsListedAt (map plain_line l.lines) l.flags l.kind l.number j)
