-- Which of the rules Y2 to Y8, but for Y5, speak of an opcode. (For the code alone.)
use Rattle.std.specs.Prelude.{ℕ, Bool, nat_eq, nat_le, ◌&&◌, ◌||◌, if◌then◌else◌}
use Rattle.spv_module.specs.declared.opcode.TheConstants as opcode
use Rattle.spv_type_rules.specs.declared.concern.Concern.{Concern}
use Rattle.spv_type_rules.specs.declared.concern.Concern.TheVariants.{Declaration, Constant, Function, Return, Call}
use Rattle.spv_type_rules.specs.declared.concern.Concern.TheVariants.{Nothing}

-- from one number to another
abbrev pub is_between : ℕ → ℕ → ℕ → Bool
is_between a b n = nat_le a n && nat_le n b

abbrev pub concern_of : ℕ → Concern
concern_of n =
    if is_between opcode.TYPE_VOID opcode.TYPE_FORWARD_POINTER n || nat_eq n opcode.TYPE_PIPE_STORAGE
    || nat_eq n opcode.TYPE_NAMED_BARRIER then Declaration
    else (if is_between opcode.CONSTANT_TRUE opcode.SPEC_CONSTANT_COMPOSITE n || nat_eq n opcode.CONSTANT_PIPE_STORAGE
    then Constant
    else (if nat_eq n opcode.FUNCTION || nat_eq n opcode.FUNCTION_PARAMETER then Function
    else (if nat_eq n opcode.FUNCTION_CALL then Call
    else (if nat_eq n opcode.RETURN || nat_eq n opcode.RETURN_VALUE then Return
    else Nothing))))

-- what stands before the types, labels, plain branches, and the ends of functions: no rule speaks of it, if it is no
-- operation
abbrev pub is_silent : ℕ → Bool
is_silent n =
    nat_le n opcode.CAPABILITY || is_between opcode.LABEL opcode.BRANCH n || nat_eq n opcode.FUNCTION_END

-- what may have a row of types
abbrev pub is_operation : ℕ → Bool
is_operation n =
    is_between opcode.VARIABLE opcode.SELECTION_MERGE n || nat_eq n opcode.UNDEF || nat_eq n opcode.EXT_INST
    || nat_eq n opcode.BRANCH_CONDITIONAL || nat_eq n opcode.SWITCH
    || is_between opcode.LIFETIME_START opcode.SIZE_OF n
    || is_between opcode.CREATE_PIPE_FROM_PIPE_STORAGE opcode.GET_KERNEL_MAX_NUM_SUBGROUPS n
    || nat_le opcode.NAMED_BARRIER_INITIALIZE n
