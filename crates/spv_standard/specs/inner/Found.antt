-- The answer of a pass that asks one rule. (For the code alone.)
use Rattle.std.specs.Prelude.{ℕ, Option, Some, None}
use Rattle.spv_module.specs.declared.fault.Rule.{Rule}
use Rattle.spv_standard.specs.declared.found.Found.{Found}

-- the rule at an instruction, where there is one
abbrev pub found_by : Rule → Option ℕ → Option Found
found_by r None = None
found_by r (Some n) = Some (record { rule = r; inst = n })
