-- Y2: type declarations. [3.49.6; widths and counts own]
use Rattle.std.specs.Prelude.{◌≡◌, ◌≢◌, ◌≤◌, ◌<◌, ◌⊎◌, ℕ, List, [], ◌∷◌, Option, Some, None}
use Rattle.std.specs.Prelude.{nat_eq, if◌then◌else◌, IsSomeAnd}
use Rattle.std.specs.List.{AllByRecursion}
use Rattle.spv_module.specs.declared.opcode.TheConstants as opcode
use Rattle.spv_module.specs.Operand.{Plain, Result, Id, Word, Value, PlainInst}
use Rattle.spv_module.specs.Width.{type_of}
use Rattle.spv_ids.specs.Definition.{IsDefinedAt}
use Rattle.spv_type_forms.specs.declared.form.Form.TheVariants as form
use Rattle.spv_type_forms.specs.Form.{form_in, form_of}
use Rattle.spv_type_forms.specs.Types.{scalar_in, class_in, IsSomeInt, IsNumber, IsData}
use Rattle.spv_type_forms.specs.declared.objects.Image.{Image}
use Rattle.spv_type_forms.specs.Objects.{image_in, image_of}
use Rattle.spv_type_forms.specs.Parts.{length_of}
use Rattle.spv_type_kinds.specs.Operands.{ids_in}
use Rattle.spv_type_rules.specs.declared.declaration.Declaration.{Declaration}
use Rattle.spv_type_rules.specs.declared.declaration.Declaration.TheVariants.{Int, Float, Vector, Array, Struct}
use Rattle.spv_type_rules.specs.declared.declaration.Declaration.TheVariants.{Pointer, Function, Forward}
use Rattle.spv_type_rules.specs.declared.declaration.Declaration.TheVariants as declaration

-- the type declarations of which Y2 speaks, by opcode [3.49.6]
abbrev pub declaration_of : ℕ → Option Declaration
declaration_of n = if nat_eq n opcode.TYPE_INT then Some Int
    else (if nat_eq n opcode.TYPE_FLOAT then Some Float
    else (if nat_eq n opcode.TYPE_VECTOR then Some Vector
    else (if nat_eq n opcode.TYPE_ARRAY then Some Array
    else (if nat_eq n opcode.TYPE_STRUCT then Some Struct
    else (if nat_eq n opcode.TYPE_POINTER then Some Pointer
    else (if nat_eq n opcode.TYPE_FUNCTION then Some Function
    else (if nat_eq n opcode.TYPE_FORWARD_POINTER then Some Forward
    else (if nat_eq n opcode.TYPE_IMAGE then Some declaration.Image
    else (if nat_eq n opcode.TYPE_SAMPLED_IMAGE then Some declaration.SampledImage else None)))))))))

-- the length of an array: an OpConstant or OpSpecConstant of int type with a value of 1 at least [3.49.6]
abbrev pub IsLength : List PlainInst → ℕ → Type 0
IsLength is x = IsSomeAnd (type_of is x) (IsSomeInt is) × IsSomeAnd (length_of is x) (λ n. 1 ≤ n)

-- The id is defined after instruction n, as a pointer of the storage class. [3.49.6 OpTypeForwardPointer]
pub record IsPointerAfter (is : List PlainInst) (n t class : ℕ) : Type 0 where
  pub place : ℕ
  pub after : n < place
  pub defined : IsDefinedAt is t place
  pub pointer : class_in (form_in defined.inst) ≡ Some class

-- What an image type says of its images is such as it may be: the sampled type is void, an int or a float, Depth is 0,
-- 1 or 2, Arrayed and MS 0 or 1, Sampled 0, 1 or 2. The Dim of one that is sampled is neither Buffer nor SubpassData.
-- [3.49.6 OpTypeImage, OpTypeSampledImage]
abbrev pub IsSampledType : List PlainInst → ℕ → Type 0
IsSampledType is t = (form_of is t ≡ Some form.Void) ⊎ IsNumber is t

abbrev pub IsSoundImage : List PlainInst → Image → Type 0
IsSoundImage is m = IsSampledType is m.sampled_type × (m.depth ≤ 2) × (m.arrayed ≤ 1) × (m.multisampled ≤ 1)
    × (m.sampled ≤ 2)

abbrev pub IsSampled : Image → Type 0
IsSampled m = (m.dim ≢ 5) × (m.dim ≢ 6)

-- The operands of a declaration at instruction n are such as it may have: the widths of an OpTypeInt, whose signedness
-- is 0, and of an OpTypeFloat, and how many components, of an int, float or bool type, an OpTypeVector has; a pointer
-- points to a data type or an opaque type, and a function returns void or a data type; elements, members and
-- parameters are of data types, an array's length is an `IsLength`, a forward pointer names a later pointer of its
-- class, and a sampled image type an image type. [3.49.6; widths and counts own]
abbrev pub DeclaresSoundly : List PlainInst → ℕ → Declaration → List Plain → Type 0
DeclaresSoundly is n Int (Result t ∷ Word w ∷ Word s ∷ []) = ((w ≡ 8) ⊎ (w ≡ 16) ⊎ (w ≡ 32) ⊎ (w ≡ 64)) × (s ≡ 0)
DeclaresSoundly is n Float (Result t ∷ Word w ∷ []) = (w ≡ 16) ⊎ (w ≡ 32) ⊎ (w ≡ 64)
DeclaresSoundly is n Vector (Result t ∷ Id c ∷ Word k ∷ []) =
    IsSomeAnd (scalar_in (form_of is c)) (λ s. (k ≡ 2) ⊎ (k ≡ 3) ⊎ (k ≡ 4) ⊎ (k ≡ 8) ⊎ (k ≡ 16))
DeclaresSoundly is n Array (Result t ∷ Id e ∷ Id l ∷ []) = IsData is e × IsLength is l
DeclaresSoundly is n Struct (Result t ∷ os) = AllByRecursion (IsData is) (ids_in os)
DeclaresSoundly is n Pointer (Result t ∷ Value k class ∷ Id p ∷ []) = IsData is p ⊎ (form_of is p ≡ Some form.Opaque)
DeclaresSoundly is n Function (Result t ∷ Id r ∷ os) =
    (IsData is r ⊎ (form_of is r ≡ Some form.Void)) × AllByRecursion (IsData is) (ids_in os)
DeclaresSoundly is n Forward (Id p ∷ Value k class ∷ []) = IsPointerAfter is n p class
DeclaresSoundly is n declaration.Image os = IsSomeAnd (image_in os) (IsSoundImage is)
DeclaresSoundly is n declaration.SampledImage (Result t ∷ Id i ∷ []) = IsSomeAnd (image_of is i) IsSampled
DeclaresSoundly is n _ os = ⊥
