-- Instructions over the types, constants and variables of a small module.
use Rattle.std.specs.Prelude.{ℕ, List, [], ◌∷◌}
use Rattle.spv_module.specs.declared.opcode.TheConstants as opcode
use Rattle.spv_module.specs.Operand.{Plain, OfType, Result, Id, Word, Value, Mask, PlainInst}
use Rattle.spv_type_forms.specs.Example.{inst, lone_variable, objects, small}

-- %9 = OpAccessChain %4 %8 %5: to the member 1
abbrev pub to_member : PlainInst
to_member = inst opcode.ACCESS_CHAIN (OfType 4 ∷ Result 9 ∷ Id 8 ∷ Id 5 ∷ [])

-- %10 = OpIAdd %1 %5 %5
abbrev pub add : PlainInst
add = inst opcode.I_ADD (OfType 1 ∷ Result 10 ∷ Id 5 ∷ Id 5 ∷ [])

-- %11 = OpFAdd %1 %5 %5: ints in place of floats
abbrev pub add_floats : PlainInst
add_floats = inst opcode.F_ADD (OfType 1 ∷ Result 11 ∷ Id 5 ∷ Id 5 ∷ [])

-- %9 = OpPtrAccessChain %4 %8 %5 %5: the same from an element
abbrev pub by_element : PlainInst
by_element = inst opcode.PTR_ACCESS_CHAIN (OfType 4 ∷ Result 9 ∷ Id 8 ∷ Id 5 ∷ Id 5 ∷ [])

-- %8 = OpVariable %7 CrossWorkgroup
abbrev pub variable : PlainInst
variable = inst opcode.VARIABLE (OfType 7 ∷ Result 8 ∷ Value 0 5 ∷ [])

-- %20 = OpLabel
abbrev pub label : PlainInst
label = inst opcode.LABEL (Result 20 ∷ [])

-- the small module's types, and before them %21 = OpTypeFloat 64
abbrev pub with_double : List PlainInst
with_double = inst opcode.TYPE_FLOAT (Result 21 ∷ Word 64 ∷ []) ∷ small

-- the variable after its type: %7 = OpTypePointer CrossWorkgroup %6
abbrev pub pointed_variable : List PlainInst
pointed_variable = inst opcode.TYPE_POINTER (Result 7 ∷ Value 0 5 ∷ Id 6 ∷ []) ∷ lone_variable

-- types of OpenCL, and the small module's after them
abbrev pub with_objects : List PlainInst
with_objects =
    inst opcode.TYPE_STRUCT (Result 21 ∷ Id 1 ∷ Id 1 ∷ []) ∷  -- %21 = OpTypeStruct %1 %1
    inst opcode.TYPE_VECTOR (Result 22 ∷ Id 2 ∷ Word 4 ∷ []) ∷  -- %22 = OpTypeVector %2 4
    inst opcode.TYPE_EVENT (Result 23 ∷ []) ∷  -- %23 = OpTypeEvent
    inst opcode.TYPE_POINTER (Result 24 ∷ Value 0 7 ∷ Id 23 ∷ []) ∷  -- %24 = OpTypePointer Function %23
    inst opcode.TYPE_DEVICE_EVENT (Result 25 ∷ []) ∷  -- %25 = OpTypeDeviceEvent
    inst opcode.TYPE_RESERVE_ID (Result 26 ∷ []) ∷  -- %26 = OpTypeReserveId
    inst opcode.TYPE_QUEUE (Result 27 ∷ []) ∷  -- %27 = OpTypeQueue
    inst opcode.TYPE_PIPE (Result 28 ∷ Value 0 0 ∷ []) ∷  -- %28 = OpTypePipe ReadOnly
    inst opcode.TYPE_PIPE (Result 29 ∷ Value 0 1 ∷ []) ∷  -- %29 = OpTypePipe WriteOnly
    inst opcode.TYPE_PIPE_STORAGE (Result 30 ∷ []) ∷  -- %30 = OpTypePipeStorage
    inst opcode.TYPE_NAMED_BARRIER (Result 31 ∷ []) ∷  -- %31 = OpTypeNamedBarrier
    inst opcode.TYPE_POINTER (Result 32 ∷ Value 0 7 ∷ Id 25 ∷ []) ∷  -- %32 = OpTypePointer Function %25
    small

-- %20 = OpGenericCastToPtrExplicit %4 %9 CrossWorkgroup
abbrev pub cast : PlainInst
cast = inst opcode.GENERIC_CAST_TO_PTR_EXPLICIT (OfType 4 ∷ Result 20 ∷ Id 9 ∷ Value 0 5 ∷ [])

-- %20 = OpGroupIAdd %1 %5 ExclusiveScan %5
abbrev pub scan : PlainInst
scan = inst opcode.GROUP_I_ADD (OfType 1 ∷ Result 20 ∷ Id 5 ∷ Value 0 2 ∷ Id 5 ∷ [])

-- %20 = OpGroupNonUniformIAdd %1 %5 ClusteredReduce %5 %5
abbrev pub clusters : PlainInst
clusters = inst opcode.GROUP_NON_UNIFORM_I_ADD (OfType 1 ∷ Result 20 ∷ Id 5 ∷ Value 0 3 ∷ Id 5 ∷ Id 5 ∷ [])

-- %20 = OpGroupNonUniformQuadSwap %1 %5 %5 %9
abbrev pub swap : ℕ → PlainInst
swap x = inst opcode.GROUP_NON_UNIFORM_QUAD_SWAP (OfType 1 ∷ Result 20 ∷ Id 5 ∷ Id 5 ∷ Id x ∷ [])

-- %20 = OpSDot %1 %9 %9 PackedVectorFormat4x8Bit
abbrev pub packed : PlainInst
packed = inst opcode.S_DOT (OfType 1 ∷ Result 20 ∷ Id 9 ∷ Id 9 ∷ Value 0 0 ∷ [])

-- more types, and those of `objects` after them
abbrev pub with_images : List PlainInst
with_images =
    inst opcode.TYPE_VECTOR (Result 21 ∷ Id 3 ∷ Word 4 ∷ []) ∷  -- %21 = OpTypeVector %3 4
    inst opcode.TYPE_VECTOR (Result 22 ∷ Id 1 ∷ Word 2 ∷ []) ∷  -- %22 = OpTypeVector %1 2
    inst opcode.TYPE_VECTOR (Result 23 ∷ Id 3 ∷ Word 2 ∷ []) ∷  -- %23 = OpTypeVector %3 2
    inst opcode.TYPE_SAMPLER (Result 24 ∷ []) ∷  -- %24 = OpTypeSampler
    inst opcode.TYPE_POINTER (Result 25 ∷ Value 0 11 ∷ Id 3 ∷ []) ∷  -- %25 = OpTypePointer Image %3
    inst opcode.TYPE_POINTER (Result 26 ∷ Value 0 0 ∷ Id 4 ∷ []) ∷  -- %26 = OpTypePointer UniformConstant %4
    inst opcode.TYPE_EVENT (Result 27 ∷ []) ∷  -- %27 = OpTypeEvent
    inst opcode.TYPE_POINTER (Result 28 ∷ Value 0 4 ∷ Id 3 ∷ []) ∷  -- %28 = OpTypePointer Workgroup %3
    inst opcode.TYPE_POINTER (Result 29 ∷ Value 0 5 ∷ Id 3 ∷ []) ∷  -- %29 = OpTypePointer CrossWorkgroup %3
    -- %30 = OpTypeImage %3 2D 0 0 1 1 Unknown
    inst opcode.TYPE_IMAGE (Result 30 ∷ Id 3 ∷ Value 5 1 ∷ Word 0 ∷ Word 0 ∷ Word 1 ∷ Word 1 ∷ Value 6 0 ∷ []) ∷
    objects

-- %20 = OpImageSampleExplicitLod %21 %9 %9 Lod %9
abbrev pub sample : PlainInst
sample =
    inst opcode.IMAGE_SAMPLE_EXPLICIT_LOD (OfType 21 ∷ Result 20 ∷ Id 9 ∷ Id 9 ∷ Mask 0 2 ∷ Id 9 ∷ [])

-- %20 = OpImageFetch %21 %9 %9 Sample %9
abbrev pub fetch : PlainInst
fetch = inst opcode.IMAGE_FETCH (OfType 21 ∷ Result 20 ∷ Id 9 ∷ Id 9 ∷ Mask 0 64 ∷ Id 9 ∷ [])

-- OpExecutionModeId %9 SubgroupsPerWorkgroupId %8, and without the id
abbrev pub mode_id : PlainInst
mode_id = inst opcode.EXECUTION_MODE_ID (Id 9 ∷ Value 0 37 ∷ Id 8 ∷ [])

abbrev pub no_mode_id : PlainInst
no_mode_id = inst opcode.EXECUTION_MODE_ID (Id 9 ∷ Value 0 37 ∷ [])

-- OpDecorateId %9 AlignmentId .., and OpDecorateString %9 UserSemantic .., with these operands behind
abbrev pub decorate_id : List Plain → PlainInst
decorate_id os = inst opcode.DECORATE_ID (Id 9 ∷ Value 0 46 ∷ os)

abbrev pub decorate_string : List Plain → PlainInst
decorate_string os = inst opcode.DECORATE_STRING (Id 9 ∷ Value 0 5635 ∷ os)

-- OpGroupDecorate %4 %x, and OpGroupMemberDecorate %4 %6 k
abbrev pub group_decorate : ℕ → PlainInst
group_decorate x = inst opcode.GROUP_DECORATE (Id 4 ∷ Id x ∷ [])

abbrev pub group_member_decorate : ℕ → PlainInst
group_member_decorate k = inst opcode.GROUP_MEMBER_DECORATE (Id 4 ∷ Id 6 ∷ Word k ∷ [])

-- functions of blocks, %45 with a size of local memory, and %50 without, and the types of `objects` after them
abbrev pub with_blocks : List PlainInst
with_blocks =
    inst opcode.TYPE_VOID (Result 40 ∷ []) ∷  -- %40 = OpTypeVoid
    inst opcode.TYPE_INT (Result 41 ∷ Word 8 ∷ Word 0 ∷ []) ∷  -- %41 = OpTypeInt 8 0
    inst opcode.TYPE_POINTER (Result 42 ∷ Value 0 8 ∷ Id 41 ∷ []) ∷  -- %42 = OpTypePointer Generic %41
    inst opcode.TYPE_POINTER (Result 43 ∷ Value 0 4 ∷ Id 41 ∷ []) ∷  -- %43 = OpTypePointer Workgroup %41
    inst opcode.TYPE_FUNCTION (Result 44 ∷ Id 40 ∷ Id 42 ∷ Id 43 ∷ []) ∷  -- %44 = OpTypeFunction %40 %42 %43
    inst opcode.FUNCTION (OfType 40 ∷ Result 45 ∷ Mask 0 0 ∷ Id 44 ∷ []) ∷  -- %45 = OpFunction %40 None %44
    inst opcode.TYPE_QUEUE (Result 46 ∷ []) ∷  -- %46 = OpTypeQueue
    inst opcode.TYPE_DEVICE_EVENT (Result 47 ∷ []) ∷  -- %47 = OpTypeDeviceEvent
    inst opcode.TYPE_POINTER (Result 48 ∷ Value 0 7 ∷ Id 47 ∷ []) ∷  -- %48 = OpTypePointer Function %47
    inst opcode.TYPE_FUNCTION (Result 49 ∷ Id 40 ∷ Id 42 ∷ []) ∷  -- %49 = OpTypeFunction %40 %42
    inst opcode.FUNCTION (OfType 40 ∷ Result 50 ∷ Mask 0 0 ∷ Id 49 ∷ []) ∷  -- %50 = OpFunction %40 None %49
    objects

-- %60 = OpEnqueueKernel %1 %61 %62 %63 %64 %65 %66 %45 %67 %68 %69 %70
abbrev pub enqueue : PlainInst
enqueue = inst opcode.ENQUEUE_KERNEL (OfType 1 ∷ Result 60 ∷ Id 61 ∷ Id 62 ∷ Id 63 ∷ Id 64 ∷ Id 65 ∷ Id 66 ∷ Id 45
    ∷ Id 67 ∷ Id 68 ∷ Id 69 ∷ Id 70 ∷ [])

-- %60 = OpGetKernelNDrangeSubGroupCount %1 %61 %50 %62 %63 %64
abbrev pub count_groups : PlainInst
count_groups = inst opcode.GET_KERNEL_ND_RANGE_SUB_GROUP_COUNT
    (OfType 1 ∷ Result 60 ∷ Id 61 ∷ Id 50 ∷ Id 62 ∷ Id 63 ∷ Id 64 ∷ [])

-- %60 = OpGetKernelWorkGroupSize %1 %f %62 %63 %64
abbrev pub work_size : ℕ → PlainInst
work_size f = inst opcode.GET_KERNEL_WORK_GROUP_SIZE (OfType 1 ∷ Result 60 ∷ Id f ∷ Id 62 ∷ Id 63 ∷ Id 64 ∷ [])
