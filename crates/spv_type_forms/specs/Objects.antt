-- The words of the rows of types that speak of images, pipes and ranges. [3.49.6]
use Rattle.std.specs.Prelude.{◌≡◌, ◌⊎◌, ℕ, List, [], ◌∷◌, Option, Some, None, nat_eq, if◌then◌else◌}
use Rattle.std.specs.Prelude.{option_and_then, IsSomeAnd}
use Rattle.spv_module.specs.declared.opcode.TheConstants as opcode
use Rattle.spv_module.specs.Operand.{Plain, Result, Id, Word, Value, PlainInst}
use Rattle.spv_module.specs.Width.{definition_of}
use Rattle.spv_type_forms.specs.declared.form.Form.{Form}
use Rattle.spv_type_forms.specs.declared.form.Form.TheVariants as form
use Rattle.spv_type_forms.specs.declared.objects.Image.{Image}
use Rattle.spv_type_forms.specs.Form.{form_of}
use Rattle.spv_type_forms.specs.Types.{IsInt, PointsTo}
use Rattle.spv_type_forms.specs.Parts.{length_of, members_of}

-- the enumerant that comes first, if one does [own]
abbrev pub enumerant_in : List Plain → Option ℕ
enumerant_in (Value k v ∷ _) = Some v
enumerant_in _ = None

-- %t = OpTypeImage %type dim depth arrayed ms sampled format [access]; the words of the image type that an id declares
-- [3.49.6]
abbrev pub image_in : List Plain → Option Image
image_in (Result t ∷ Id type ∷ Value k dim ∷ Word depth ∷ Word arrayed ∷ Word ms ∷ Word sampled ∷ Value f format ∷ os) =
    Some (record {
      sampled_type = type;
      dim = dim;
      depth = depth;
      arrayed = arrayed;
      multisampled = ms;
      sampled = sampled;
      access = enumerant_in os;
    })
image_in _ = None

abbrev pub image_of : List PlainInst → ℕ → Option Image
image_of is t = option_and_then (λ i. if nat_eq i.opcode opcode.TYPE_IMAGE then image_in i.operands else None)
    (definition_of is t)

-- %t = OpTypePipe access; the access qualifier of the pipe type that an id declares [3.49.6]
abbrev pub pipe_access_in : List Plain → Option ℕ
pipe_access_in (Result t ∷ os) = enumerant_in os
pipe_access_in _ = None

abbrev pub pipe_access_of : List PlainInst → ℕ → Option ℕ
pipe_access_of is t =
    option_and_then (λ i. if nat_eq i.opcode opcode.TYPE_PIPE then pipe_access_in i.operands else None)
    (definition_of is t)

-- the addressing model: the first operand of the OpMemoryModel; how wide a size is by it: 32 bits with Physical32, 64
-- with Physical64 [3.4, 3.49.5]
abbrev pub addressing_of : List PlainInst → Option ℕ
addressing_of [] = None
addressing_of (i ∷ is) =
    if nat_eq i.opcode opcode.MEMORY_MODEL then enumerant_in i.operands else addressing_of is

abbrev pub size_in : ℕ → Option ℕ
size_in a = if nat_eq a 1 then Some 32 else (if nat_eq a 2 then Some 64 else None)

-- an int type as wide as a size; an array type of n of them [own: Y5]
abbrev pub IsSizeInt : List PlainInst → ℕ → Type 0
IsSizeInt is t = IsSomeAnd (option_and_then size_in (addressing_of is)) (IsInt is t)

abbrev pub IsArrayOfSizes : List PlainInst → ℕ → Form → Type 0
IsArrayOfSizes is n (form.Array e l) = IsSizeInt is e × (length_of is l ≡ Some n)
IsArrayOfSizes is n _ = ⊥

abbrev pub IsSizeArray : List PlainInst → ℕ → ℕ → Type 0
IsSizeArray is n t = IsSomeAnd (form_of is t) (IsArrayOfSizes is n)

-- A range of work items: a struct type of an int of width 32 and three arrays of three sizes; or a pointer to one.
-- [3.49.21 OpEnqueueKernel, OpBuildNDRange; the pointer own]
abbrev pub AreOfRange : List PlainInst → List Plain → Type 0
AreOfRange is (Id d ∷ Id a ∷ Id b ∷ Id c ∷ []) =
    IsInt is d 32 × IsSizeArray is 3 a × IsSizeArray is 3 b × IsSizeArray is 3 c
AreOfRange is _ = ⊥

abbrev pub IsRangeStruct : List PlainInst → ℕ → Type 0
IsRangeStruct is t = (form_of is t ≡ Some form.Struct) × IsSomeAnd (members_of is t) (AreOfRange is)

abbrev pub IsRange : List PlainInst → ℕ → Type 0
IsRange is t = IsRangeStruct is t ⊎ ((p : ℕ) × PointsTo is t p × IsRangeStruct is p)
