-- How what one reach refuses stands to what another one refuses. (Own.)
use Rattle.std.specs.Prelude.{ℕ, List}
use Rattle.spv_table.specs.Table.{Table}
use Rattle.spv_module.specs.Operand.{PlainInst}
use Rattle.spv_module.specs.declared.fault.Rule.{Rule}
use Rattle.spv_extended.specs.declared.reach.Reach.{Reach}
use Rattle.spv_extended.specs.Reach.{looked_at}
use Rattle.spv_check.specs.Broken.{Broken}

-- If a list of instructions breaks the rule at an instruction, where it is looked at as far as the one reach says, it
-- breaks it there where it is looked at as far as the other one says. [own]
abbrev pub BreaksToo : Table → Reach → Reach → ℕ → List PlainInst → Rule → ℕ → Type 0
BreaksToo G one other bound is r n =
    Broken G one bound (looked_at one is) r n → Broken G other bound (looked_at other is) r n
