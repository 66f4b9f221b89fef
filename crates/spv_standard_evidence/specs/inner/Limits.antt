-- Limits by opcodes. (For the code alone.)
use Rattle.std.specs.Prelude.{ℕ, Bool, nat_eq, ◌||◌, if◌then◌else◌}
use Rattle.spv_module.specs.declared.opcode.TheConstants as opcode
use Rattle.spv_limits.specs.declared.table.Limit.{Limit}
use Rattle.spv_limits.specs.declared.table.Limit.TheVariants as limit

-- what an instruction of the opcode may have too many of, beside the characters of a text: a struct that has not too
-- many members may be too deep, and variables are counted in functions and before them
abbrev pub limit_of : ℕ → Bool → Bool → Limit
limit_of code has_many is_local =
    if nat_eq code opcode.TYPE_STRUCT then (if has_many then limit.Members else limit.Depth)
    else (if nat_eq code opcode.TYPE_FUNCTION then limit.Parameters
    else (if nat_eq code opcode.SWITCH then limit.Pairs
    else (if nat_eq code opcode.EXT_INST then limit.Arguments
    else (if nat_eq code opcode.EXECUTION_MODE || nat_eq code opcode.EXECUTION_MODE_ID then limit.Modes
    else (if nat_eq code opcode.VARIABLE then (if is_local then limit.Locals else limit.Globals)
    else limit.Indexes)))))
