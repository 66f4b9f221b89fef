-- A code of an error that was looked up. (For the code alone.)
use Rattle.std.specs.Prelude.{ℕ, List, Option, Some, None}
use Rattle.spv_rules.specs.Errors.{error_name}
use Rattle.spv_rules.specs.Rules.{IsNamed}
use Rattle.spv_rules.specs.declared.errors.AnyCode.{AnyCode}
use Rattle.spv_rules.specs.declared.errors.AnyCode.TheVariants.{Verdict, Error}
use Rattle.spv_rules.specs.declared.errors.ErrorCode.{ErrorCode}

-- the code of an error has the name, or none has
abbrev pub IsErrorNamed : List ℕ → Option AnyCode → Type 0
IsErrorNamed name (Some (Error code)) = IsNamed name (error_name code)
IsErrorNamed name (Some (Verdict code)) = ⊥
IsErrorNamed name None = (code : ErrorCode) → ¬ (IsNamed name (error_name code))
