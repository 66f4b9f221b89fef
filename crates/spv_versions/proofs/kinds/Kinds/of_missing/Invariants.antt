use Rattle.std.proofs.Common.{◌≡◌, ◌<◌, ℕ, Some, None, length, get_or}
use Rattle.std.specs.Prelude.{slice_get}
use Rattle.spv_versions.specs.declared.table.Kind.{Kind}
use Rattle.spv_versions.proofs.Numbering.{IsKnown}
use Rattle.spv_versions.proofs.kinds.Kinds.of_missing.Given as goal

abbrev pub invariant-loop-k : goal.invariant-loop-k
invariant-loop-k l = (length l.numbers ≡ 9) × ((p : ℕ) (k : Kind) → p < l.k → slice_get l.kinds p ≡ Some k
    → IsKnown l.table l.missing.lines k (get_or l.numbers p None))
