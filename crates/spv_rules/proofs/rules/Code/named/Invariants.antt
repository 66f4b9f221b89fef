use Rattle.std.proofs.Common.{◌≡◌, ◌<◌, ℕ, Some, slice_get}
use Rattle.spv_rules.specs.Rules.{IsNamed}
use Rattle.spv_rules.specs.Table.{Row, rows}
use Rattle.spv_rules.proofs.rules.Code.named.Given as goal

-- no row so far has the name
abbrev pub invariant-loop-place : goal.invariant-loop-place
invariant-loop-place l = (n : ℕ) (row : Row) → n < l.place → slice_get rows n ≡ Some row → ¬ (IsNamed l.name row.2.now)
