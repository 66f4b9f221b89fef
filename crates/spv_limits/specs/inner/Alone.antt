-- What an instruction has too much of itself. (For the code alone.)
use Rattle.std.specs.Prelude.{◌≡◌, ◌<◌, ◌-◌, ◌⊎◌, ℕ, List, [], ◌∷◌, Option, Some, None, nat_eq, ◌||◌, if◌then◌else◌}
use Rattle.std.specs.Prelude.{length}
use Rattle.spv_module.specs.declared.opcode.TheConstants as opcode
use Rattle.spv_module.specs.Operand.{Plain, OfType, Result, Id, Word, Text, PlainInst}
use Rattle.spv_extended.specs.declared.set.Set.TheVariants.{OpenClStd}
use Rattle.spv_extended.specs.Sets.{set_in}
use Rattle.spv_limits.specs.declared.table.Limit.TheVariants as limit
use Rattle.spv_limits.specs.Counted.{argument_count, before_indexes, character_count, member_count, pair_count}
use Rattle.spv_limits.specs.Counted.{parameter_count}
use Rattle.spv_limits.specs.Table.{most}

-- an operand is a text with too many characters; one of some is
abbrev pub IsLong : Plain → Type 0
IsLong (Text t) = most limit.Characters < character_count t
IsLong o = ⊥

abbrev pub AreLong : List Plain → Type 0
AreLong [] = ⊥
AreLong (o ∷ os) = IsLong o ⊎ AreLong os

-- it has too many indexes; too many members, parameters, indexes or pairs
abbrev pub HasTooManyIndexes : PlainInst → Type 0
HasTooManyIndexes i =
    (front : ℕ) × (before_indexes i.opcode ≡ Some front) × (most limit.Indexes < length i.operands - front)

pub data HasTooMany (i : PlainInst) : Type 0 where
  of_members : i.opcode ≡ opcode.TYPE_STRUCT → most limit.Members < member_count i.operands → HasTooMany i
  of_parameters : i.opcode ≡ opcode.TYPE_FUNCTION → most limit.Parameters < parameter_count i.operands → HasTooMany i
  of_pairs : i.opcode ≡ opcode.SWITCH → most limit.Pairs < pair_count i.operands → HasTooMany i
  of_indexes : HasTooManyIndexes i → HasTooMany i

-- operands are those of an instruction of OpenCL.std; it has too many arguments
abbrev pub IsStdCall : List PlainInst → List Plain → Type 0
IsStdCall is (OfType t ∷ Result x ∷ Id set ∷ Word number ∷ os) = set_in is set ≡ OpenClStd
IsStdCall is os = ⊥

abbrev pub HasTooManyArguments : List PlainInst → PlainInst → Type 0
HasTooManyArguments is i =
    (i.opcode ≡ opcode.EXT_INST) × (most limit.Arguments < argument_count i.operands) × IsStdCall is i.operands

-- it passes a limit by what it has itself
abbrev pub PassesAlone : List PlainInst → PlainInst → Type 0
PassesAlone is i = HasTooMany i ⊎ AreLong i.operands ⊎ HasTooManyArguments is i

-- the function to which it gives an execution mode
abbrev pub mode_in : List Plain → Option ℕ
mode_in (Id f ∷ os) = Some f
mode_in os = None

abbrev pub mode_of : PlainInst → Option ℕ
mode_of i = if nat_eq i.opcode opcode.EXECUTION_MODE || nat_eq i.opcode opcode.EXECUTION_MODE_ID
    then mode_in i.operands else None
