use Rattle.std.proofs.Common.{◌≡◌, ◌<◌, ℕ, Some, slice_get}
use Rattle.spv_rules.specs.Errors.{error_codes, error_name}
use Rattle.spv_rules.specs.Rules.{IsNamed}
use Rattle.spv_rules.specs.declared.errors.ErrorCode.{ErrorCode}
use Rattle.spv_rules.proofs.errors.ErrorCode.named.Given as goal

-- no code so far has the name
abbrev pub invariant-loop-place : goal.invariant-loop-place
invariant-loop-place l = (n : ℕ) (code : ErrorCode) → n < l.place → slice_get error_codes n ≡ Some code → ¬ (IsNamed l.name (error_name code))
