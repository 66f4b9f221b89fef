-- What single instructions have so many of. [2.17]
use Rattle.std.specs.Prelude.{◌-◌, ◌/◌, ℕ, List, [], ◌∷◌, Option, Some, None, Bool, false, not, ◌&&◌, ◌||◌}
use Rattle.std.specs.Prelude.{count_by, if◌then◌else◌, length, nat_eq, nat_le, take}
use Rattle.spv_module.specs.declared.opcode.TheConstants as opcode
use Rattle.spv_module.specs.Operand.{Plain, Id, PlainInst}

-- how many characters a text has in UTF-8: as many as octets that do not go on with one, which are 128 to 191 [2.2.1]
abbrev pub begins_character : ℕ → Bool
begins_character b = not (nat_le 128 b && nat_le b 191)

abbrev pub character_count : List ℕ → ℕ
character_count text = count_by begins_character text

-- how many operands of an opcode come before the indexes: OpAccessChain %t %x %base .., OpInBoundsAccessChain;
-- OpPtrAccessChain %t %x %base %element .., OpInBoundsPtrAccessChain; OpCompositeExtract %t %x %c ..;
-- OpCompositeInsert %t %x %o %c .. [3.49.8, 3.49.12]
abbrev pub before_indexes : ℕ → Option ℕ
before_indexes n =
    if nat_eq n opcode.ACCESS_CHAIN || nat_eq n opcode.IN_BOUNDS_ACCESS_CHAIN || nat_eq n opcode.COMPOSITE_EXTRACT
    then Some 3
    else (if nat_eq n opcode.PTR_ACCESS_CHAIN || nat_eq n opcode.IN_BOUNDS_PTR_ACCESS_CHAIN
    || nat_eq n opcode.COMPOSITE_INSERT then Some 4 else None)

-- how many members an OpTypeStruct %t .. has, how many parameters an OpTypeFunction %t %r .., how many pairs an
-- OpSwitch %s %default .., how many operands stand behind OpExtInst %t %x %set number .. [3.49.6, 3.49.17, 3.49.4]
abbrev pub member_count : List Plain → ℕ
member_count os = length os - 1

abbrev pub parameter_count : List Plain → ℕ
parameter_count os = length os - 2

abbrev pub pair_count : List Plain → ℕ
pair_count os = (length os - 2) / 2

abbrev pub argument_count : List Plain → ℕ
argument_count os = length os - 4

-- the instruction gives an execution mode to the function of the id: OpExecutionMode %f mode .., OpExecutionModeId
-- [3.49.5]
abbrev pub has_first_id : ℕ → List Plain → Bool
has_first_id f (Id x ∷ os) = nat_eq x f
has_first_id f os = false

abbrev pub sets_mode : ℕ → PlainInst → Bool
sets_mode f i =
    (nat_eq i.opcode opcode.EXECUTION_MODE || nat_eq i.opcode opcode.EXECUTION_MODE_ID) && has_first_id f i.operands

-- the instruction is an OpVariable; what stands from the first OpFunction on [2.4]
abbrev pub is_variable : PlainInst → Bool
is_variable i = nat_eq i.opcode opcode.VARIABLE

abbrev pub from_functions : List PlainInst → List PlainInst
from_functions [] = []
from_functions (i ∷ is) = if nat_eq i.opcode opcode.FUNCTION then i ∷ is else from_functions is

-- Before instruction n: how many modes were given to the function, how many variables stand there at all, and in
-- functions.
abbrev pub modes_before : List PlainInst → ℕ → ℕ → ℕ
modes_before is f n = count_by (sets_mode f) (take n is)

abbrev pub variables_before : List PlainInst → ℕ → ℕ
variables_before is n = count_by is_variable (take n is)

abbrev pub locals_before : List PlainInst → ℕ → ℕ
locals_before is n = count_by is_variable (from_functions (take n is))
