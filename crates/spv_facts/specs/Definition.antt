-- The first instruction that defines an id. (Own.)
use Rattle.std.specs.Prelude.{◌+◌, ℕ, List, [], ◌∷◌, Option, Some, None, option_and_then, slice_get, if◌then◌else◌}
use Rattle.spv_table.specs.Lookups.{is_number}
use Rattle.spv_module.specs.Operand.{PlainInst, result_in}

-- its number, if the first of these has this number
abbrev pub definition_from : ℕ → ℕ → List PlainInst → Option ℕ
definition_from x at [] = None
definition_from x at (i ∷ is) =
    if is_number x (result_in i.operands) then Some at else definition_from x (at + 1) is

-- the instruction
abbrev pub defined_by : List PlainInst → ℕ → Option PlainInst
defined_by is x = option_and_then (slice_get is) (definition_from x 0 is)
