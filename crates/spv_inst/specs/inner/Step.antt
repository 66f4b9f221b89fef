-- What the reading of one instruction answers. (For the code alone.)
use Rattle.std.specs.Prelude.{◌≡◌, ◌≤◌, ◌-◌, ℕ, List, drop}
use Rattle.spv_table.specs.Table.{Table, Item}
use Rattle.spv_module.specs.declared.fault.Stop.{Stop}
use Rattle.spv_module.specs.declared.fault.Stop.TheVariants.{Fault, Memory}
use Rattle.spv_module.specs.Operand.{PlainInst, Context}
use Rattle.spv_module.specs.Refusal.{Misfit}
use Rattle.spv_module.specs.Malformed.{IsMalformed}

-- That memory ran out, or what refuses the further words of the instruction of a number, which begin at a word.
abbrev pub IsMisfit : Table → Context → List Item → List ℕ → ℕ → ℕ → Stop → Type 0
IsMisfit G c pattern further number first Memory = Unit {0}
IsMisfit G c pattern further number first (Fault f) =
    (f.inst ≡ number) × (first ≤ f.word) × Misfit G c pattern further f.rule (f.word - first)

-- That memory ran out, or the death of the instruction of a number, whose first word has that place.
abbrev pub IsDeadFrom : Table → List PlainInst → List ℕ → ℕ → ℕ → Stop → Type 0
IsDeadFrom G before words number at Memory = Unit {0}
IsDeadFrom G before words number at (Fault f) =
    (f.inst ≡ number) × (at ≤ f.word) × IsMalformed G before (drop at words) f.rule (f.word - at)
