-- The roles that an opcode asks for, and what they say of operands. (For the code alone.)
use Rattle.std.specs.Prelude.{◌⊎◌, ℕ, List, [], ◌∷◌, Bool, Option, Some, None, nat_eq, nat_le, ◌&&◌}
use Rattle.std.specs.Prelude.{◌||◌, if◌then◌else◌}
use Rattle.spv_module.specs.Operand.{Plain, OfType, Id, Mask, Argument, PlainInst}
use Rattle.spv_module.specs.declared.opcode.TheConstants as opcode
use Rattle.spv_layout.specs.declared.form.Role.{Role}
use Rattle.spv_layout.specs.declared.form.Role.TheVariants as role
use Rattle.spv_type_rules.specs.declared.roles.asked.Asked.{Asked}
use Rattle.spv_type_rules.specs.roles.Role.{Plays}

abbrev pub ask : Role → Role → Role → Option Asked
ask first others masked = Some (record { first = first; others = others; masked = masked })

abbrev is_between : ℕ → ℕ → ℕ → Bool
is_between a b n = nat_le a n && nat_le n b

-- of opcodes up to that of OpVariable
abbrev pub early : ℕ → Option Asked
early n =
    if nat_eq n opcode.CONSTANT_COMPOSITE || nat_eq n opcode.SPEC_CONSTANT_COMPOSITE || nat_eq n opcode.VARIABLE
    then ask role.Value role.Value role.Any
    else (if nat_eq n opcode.TYPE_VECTOR || nat_eq n opcode.TYPE_STRUCT || nat_eq n opcode.TYPE_POINTER
    || nat_eq n opcode.TYPE_FUNCTION || nat_eq n opcode.TYPE_FORWARD_POINTER || nat_eq n opcode.TYPE_IMAGE
    || nat_eq n opcode.TYPE_SAMPLED_IMAGE || nat_eq n opcode.FUNCTION
    then ask role.OfType role.OfType role.OfType
    else (if nat_eq n opcode.TYPE_ARRAY then ask role.OfType role.Value role.Value
    else (if nat_eq n opcode.FUNCTION_CALL then ask role.Function role.Value role.Value
    else (if nat_eq n opcode.ENTRY_POINT then ask role.Function role.Global role.Global
    else (if nat_eq n opcode.EXECUTION_MODE then ask role.Function role.Any role.Any
    else (if nat_eq n opcode.LINE then ask role.Text role.Text role.Text
    else (if nat_eq n opcode.EXT_INST then ask role.Set role.Any role.Any
    else (if nat_eq n opcode.SOURCE then None
    else ask role.Any role.Any role.Any))))))))

-- those past it of images, groups, pipes, queues and events, and of dot products, that ask for values; and those that
-- take a function among values
abbrev pub are_values : ℕ → Bool
are_values n =
    nat_eq n opcode.IMAGE_TEXEL_POINTER || is_between opcode.SAMPLED_IMAGE opcode.IMAGE_QUERY_SAMPLES n
    || is_between opcode.GROUP_ASYNC_COPY opcode.ENQUEUE_MARKER n
    || is_between opcode.RETAIN_EVENT opcode.BUILD_ND_RANGE n
    || is_between opcode.ATOMIC_FLAG_TEST_AND_SET opcode.CREATE_PIPE_FROM_PIPE_STORAGE n
    || is_between opcode.NAMED_BARRIER_INITIALIZE opcode.MEMORY_NAMED_BARRIER n
    || is_between opcode.GROUP_NON_UNIFORM_ELECT opcode.PTR_DIFF n
    || is_between opcode.S_DOT opcode.SU_DOT_ACC_SAT n

abbrev pub takes_kernel : ℕ → Bool
takes_kernel n =
    is_between opcode.ENQUEUE_KERNEL opcode.GET_KERNEL_PREFERRED_WORK_GROUP_SIZE_MULTIPLE n
    || nat_eq n opcode.GET_KERNEL_LOCAL_SIZE_FOR_SUBGROUP_COUNT || nat_eq n opcode.GET_KERNEL_MAX_NUM_SUBGROUPS

-- of those past it that are not between others
abbrev pub late : ℕ → Option Asked
late n =
    if is_between opcode.LABEL opcode.BRANCH n then ask role.Any role.Any role.Any
    else (if nat_eq n opcode.RETURN_VALUE || nat_eq n opcode.LIFETIME_START || nat_eq n opcode.LIFETIME_STOP
    then ask role.Value role.Value role.Any
    else (if nat_eq n opcode.BRANCH_CONDITIONAL || nat_eq n opcode.SWITCH then ask role.Value role.Any role.Any
    else (if nat_eq n opcode.EXECUTION_MODE_ID then ask role.Function role.Any role.Any
    else (if are_values n then ask role.Value role.Value role.Value
    else (if takes_kernel n || nat_eq n opcode.PHI then None
    else ask role.Any role.Any role.Any)))))

-- those that ask for values
abbrev pub asks_values : ℕ → Bool
asks_values n =
    is_between opcode.CONVERT_F_TO_U opcode.ATOMIC_XOR n
    || is_between opcode.LOAD opcode.IN_BOUNDS_PTR_ACCESS_CHAIN n
    || is_between opcode.VECTOR_EXTRACT_DYNAMIC opcode.COPY_OBJECT n

abbrev pub asked_of : ℕ → Option Asked
asked_of n =
    if asks_values n then ask role.Value role.Value role.Any
    else (if nat_le n opcode.VARIABLE then early n
    else late n)

-- what is asked of an operand: of a type, of an id that is due to play role d, and of an argument
abbrev pub IsPlayed : List PlainInst → Role → Plain → Type 0
IsPlayed is d (OfType x) = Plays is role.OfType x
IsPlayed is d (Id x) = Plays is d x
IsPlayed is d (Argument x) = Plays is role.Value x
IsPlayed is d o = Unit {0}

-- the role that is due after an operand, and the one that is due then
abbrev pub due_after : Role → Role → Role → Plain → Role
due_after d r l (Id x) = r
due_after d r l (Mask k m) = l
due_after d r l o = d

abbrev pub next_after : Role → Role → Plain → Role
next_after r l (Mask k m) = l
next_after r l o = r

-- Each operand is what is asked of it, where d is due of the next id, r of those after it, and l of those after a mask.
abbrev pub ArePlayed : List PlainInst → Role → Role → Role → List Plain → Type 0
ArePlayed is d r l [] = Unit {0}
ArePlayed is d r l (o ∷ os) = IsPlayed is d o × ArePlayed is (due_after d r l o) (next_after r l o) l os

-- Some operand is not.
abbrev pub IsOneMiscast : List PlainInst → Role → Role → Role → List Plain → Type 0
IsOneMiscast is d r l [] = ⊥
IsOneMiscast is d r l (o ∷ os) =
    (¬ (IsPlayed is d o)) ⊎ IsOneMiscast is (due_after d r l o) (next_after r l o) l os
