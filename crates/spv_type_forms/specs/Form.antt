-- What a type id declares: its definition is the instruction whose result it is. [2.2.2, 3.49.6]
use Rattle.std.specs.Prelude.{ℕ, List, ◌∷◌, Option, Some, None, nat_eq, if◌then◌else◌, option_and_then, option_map}
use Rattle.spv_module.specs.declared.opcode.TheConstants as opcode
use Rattle.spv_module.specs.Operand.{Plain, Result, Id, Word, Value, PlainInst}
use Rattle.spv_module.specs.Width.{definition_of}
use Rattle.spv_type_forms.specs.declared.form.Scalar.TheVariants as scalar
use Rattle.spv_type_kinds.specs.declared.kinds.Object.{Object}
use Rattle.spv_type_kinds.specs.declared.kinds.Object.TheVariants as object
use Rattle.spv_type_forms.specs.declared.form.Form.{Form}
use Rattle.spv_type_forms.specs.declared.form.Form.TheVariants as form

-- %t = OpTypeInt w .., OpTypeFloat w, OpTypeVector %c n, OpTypeArray %e %l, OpTypePointer class %p [3.49.6]
abbrev pub int_in : List Plain → Option Form
int_in (Result t ∷ Word w ∷ _) = Some (form.Scalar (scalar.Int w))
int_in _ = None

abbrev pub float_in : List Plain → Option Form
float_in (Result t ∷ Word w ∷ _) = Some (form.Scalar (scalar.Float w))
float_in _ = None

abbrev pub vector_in : List Plain → Option Form
vector_in (Result t ∷ Id c ∷ Word n ∷ _) = Some (form.Vector c n)
vector_in _ = None

abbrev pub array_in : List Plain → Option Form
array_in (Result t ∷ Id e ∷ Id l ∷ _) = Some (form.Array e l)
array_in _ = None

abbrev pub pointer_in : List Plain → Option Form
pointer_in (Result t ∷ Value k class ∷ Id p ∷ _) = Some (form.Pointer class p)
pointer_in _ = None

-- %t = OpTypeSampledImage %i [3.49.6]
abbrev pub sampled_image_in : List Plain → Option Form
sampled_image_in (Result t ∷ Id i ∷ _) = Some (form.SampledImage i)
sampled_image_in _ = None

-- the object that an opcode declares: OpTypeImage, OpTypeSampler, OpTypeEvent, OpTypeDeviceEvent, OpTypeReserveId,
-- OpTypeQueue, OpTypePipe, OpTypePipeStorage, OpTypeNamedBarrier [3.49.6]
abbrev pub object_of : ℕ → Option Object
object_of n = if nat_eq n opcode.TYPE_IMAGE then Some object.Image
    else (if nat_eq n opcode.TYPE_SAMPLER then Some object.Sampler
    else (if nat_eq n opcode.TYPE_EVENT then Some object.Event
    else (if nat_eq n opcode.TYPE_DEVICE_EVENT then Some object.DeviceEvent
    else (if nat_eq n opcode.TYPE_RESERVE_ID then Some object.ReserveId
    else (if nat_eq n opcode.TYPE_QUEUE then Some object.Queue
    else (if nat_eq n opcode.TYPE_PIPE then Some object.Pipe
    else (if nat_eq n opcode.TYPE_PIPE_STORAGE then Some object.PipeStorage
    else (if nat_eq n opcode.TYPE_NAMED_BARRIER then Some object.NamedBarrier else None))))))))

-- what an instruction declares, if it is a type declaration; and the definition of an id [3.49.6, 2.2.2]
abbrev pub form_in : PlainInst → Option Form
form_in i = if nat_eq i.opcode opcode.TYPE_VOID then Some form.Void
    else (if nat_eq i.opcode opcode.TYPE_BOOL then Some (form.Scalar scalar.Bool)
    else (if nat_eq i.opcode opcode.TYPE_INT then int_in i.operands
    else (if nat_eq i.opcode opcode.TYPE_FLOAT then float_in i.operands
    else (if nat_eq i.opcode opcode.TYPE_VECTOR then vector_in i.operands
    else (if nat_eq i.opcode opcode.TYPE_ARRAY then array_in i.operands
    else (if nat_eq i.opcode opcode.TYPE_STRUCT then Some form.Struct
    else (if nat_eq i.opcode opcode.TYPE_OPAQUE then Some form.Opaque
    else (if nat_eq i.opcode opcode.TYPE_POINTER then pointer_in i.operands
    else (if nat_eq i.opcode opcode.TYPE_FUNCTION then Some form.Function
    else (if nat_eq i.opcode opcode.TYPE_SAMPLED_IMAGE then sampled_image_in i.operands
    else option_map (λ o. form.Object o) (object_of i.opcode)))))))))))

abbrev pub form_of : List PlainInst → ℕ → Option Form
form_of is t = option_and_then form_in (definition_of is t)
