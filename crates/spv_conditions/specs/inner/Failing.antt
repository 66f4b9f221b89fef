-- The first condition of a list that does not hold. (For the code alone.)
use Rattle.std.specs.Prelude.{List, Option, MatchOption}
use Rattle.std.specs.List.{AllByRecursion}
use Rattle.spv_conditions.specs.declared.asked.Asked.{Asked}
use Rattle.spv_conditions.specs.Condition.{FailsFirst}

-- all hold, or this is the first that does not
abbrev pub IsFirstIn : (Asked → Type 0) → List Asked → Option Asked → Type 0
IsFirstIn P qs o = MatchOption o (AllByRecursion P qs) (FailsFirst P qs)
