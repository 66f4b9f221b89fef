-- What is noted of ids. (For the code alone.)
use Rattle.std.specs.Prelude.{◌≡◌, ◌≢◌, ◌≤◌, ◌⊎◌, ℕ, List, Bool, true, false, Option, Some, None, IfSome, IsSome, IsSomeAnd}
use Rattle.std.specs.Prelude.{nat_eq, nat_le, if◌then◌else◌, slice_get}
use Rattle.spv_module.specs.declared.opcode.TheConstants as opcode
use Rattle.spv_module.specs.Operand.{PlainInst, type_in}
use Rattle.spv_module.specs.Width.{definition_of}
use Rattle.spv_type_forms.specs.declared.form.Scalar.TheVariants as scalar
use Rattle.spv_type_forms.specs.declared.form.Form.{Form}
use Rattle.spv_type_forms.specs.declared.form.Form.TheVariants as form
use Rattle.spv_type_forms.specs.declared.meaning.Meaning.{Meaning}
use Rattle.spv_type_forms.specs.declared.meaning.Meaning.TheVariants as meaning
use Rattle.spv_type_forms.specs.declared.form.Sort.{Sort}
use Rattle.spv_type_forms.specs.declared.form.Sort.TheVariants as sort
use Rattle.spv_type_forms.specs.Form.{form_in, form_of}
use Rattle.spv_type_forms.specs.Types.{IsDataForm, IsInt, IsFloat}

-- the type that a value is declared with
abbrev pub type_meant : Meaning → Option ℕ
type_meant (meaning.Typed t) = Some t
type_meant _ = None

-- what a type declares
abbrev pub form_meant : Meaning → Option Form
form_meant meaning.Void = Some form.Void
form_meant meaning.Bool = Some (form.Scalar scalar.Bool)
form_meant (meaning.Int w) = Some (form.Scalar (scalar.Int w))
form_meant (meaning.Float w) = Some (form.Scalar (scalar.Float w))
form_meant meaning.Struct = Some form.Struct
form_meant meaning.Opaque = Some form.Opaque
form_meant meaning.Function = Some form.Function
form_meant (meaning.Vector2 c) = Some (form.Vector c 2)
form_meant (meaning.Vector3 c) = Some (form.Vector c 3)
form_meant (meaning.Vector4 c) = Some (form.Vector c 4)
form_meant (meaning.Vector8 c) = Some (form.Vector c 8)
form_meant (meaning.Vector16 c) = Some (form.Vector c 16)
form_meant (meaning.UniformConstant p) = Some (form.Pointer 0 p)
form_meant (meaning.Input p) = Some (form.Pointer 1 p)
form_meant (meaning.Workgroup p) = Some (form.Pointer 4 p)
form_meant (meaning.CrossWorkgroup p) = Some (form.Pointer 5 p)
form_meant (meaning.Local p) = Some (form.Pointer 7 p)
form_meant (meaning.Generic p) = Some (form.Pointer 8 p)
form_meant (meaning.Object o) = Some (form.Object o)
form_meant (meaning.SampledImage i) = Some (form.SampledImage i)
form_meant _ = None

-- whether it is that of a type
abbrev pub is_declared : Meaning → Bool
is_declared meaning.Unknown = false
is_declared (meaning.Typed t) = false
is_declared _ = true

-- whether it is that of an int; of a bool; of a data type
abbrev pub is_int : Meaning → Bool
is_int (meaning.Int w) = true
is_int _ = false

abbrev pub is_bool : Meaning → Bool
is_bool meaning.Bool = true
is_bool _ = false

abbrev pub is_data : Meaning → Bool
is_data meaning.Unknown = false
is_data (meaning.Typed t) = false
is_data meaning.Void = false
is_data meaning.Opaque = false
is_data meaning.Function = false
is_data (meaning.SampledImage i) = false
is_data _ = true

-- whether it is that of an int or a float of 32 bits or more; and such a type
abbrev pub is_wide : Meaning → Bool
is_wide (meaning.Int w) = nat_le 32 w
is_wide (meaning.Float w) = nat_le 32 w
is_wide _ = false

abbrev pub IsWide : List PlainInst → ℕ → Type 0
IsWide is t = (w : ℕ) × (IsInt is t w ⊎ IsFloat is t w) × (32 ≤ w)

-- whether it is that of a scalar type of a sort
abbrev pub is_of_sort : Sort → Meaning → Bool
is_of_sort sort.Int (meaning.Int w) = true
is_of_sort sort.Float (meaning.Float w) = true
is_of_sort sort.Bool meaning.Bool = true
is_of_sort s _ = false

-- the type that a pointer type points to
abbrev pub pointee_meant : Meaning → Option ℕ
pointee_meant (meaning.UniformConstant p) = Some p
pointee_meant (meaning.Input p) = Some p
pointee_meant (meaning.Workgroup p) = Some p
pointee_meant (meaning.CrossWorkgroup p) = Some p
pointee_meant (meaning.Local p) = Some p
pointee_meant (meaning.Generic p) = Some p
pointee_meant _ = None

-- a type of which no more is noted is a data type
abbrev pub IsOtherOf : Meaning → Form → Type 0
IsOtherOf meaning.Declared f = IsDataForm f
IsOtherOf _ f = Unit {0}

-- what is noted of a type is no other type, and no value
abbrev pub IsMeaningOf : Form → Meaning → Type 0
IsMeaningOf f m = (type_meant m ≡ None) × IfSome (form_meant m) (λ g. g ≡ f) × IsOtherOf m f

-- what is noted of a result that is declared with type t
abbrev pub typed_by : ℕ → ℕ → Meaning
typed_by n t = if nat_eq n opcode.FUNCTION then meaning.Unknown else meaning.Typed t

-- an instruction is a value that is declared with a type
abbrev pub IsValueOf : ℕ → PlainInst → Type 0
IsValueOf t i = (type_in i.operands ≡ Some t) × (i.opcode ≢ opcode.FUNCTION)

-- what an instruction says of its result
pub record IsSaid (i : PlainInst) (m : Meaning) : Type 0 where
  pub typed : (t : ℕ) → type_meant m ≡ Some t → IsValueOf t i
  pub of_form : (f : Form) → form_meant m ≡ Some f → form_in i ≡ Some f
  pub declares : is_declared m ≡ true → IsSome (form_in i)
  pub other : (f : Form) → form_in i ≡ Some f → IsOtherOf m f

-- what is noted of an id holds of it; and so of each
pub record IsMeant (is : List PlainInst) (x : ℕ) (m : Meaning) : Type 0 where
  pub typed : (t : ℕ) → type_meant m ≡ Some t → IsSomeAnd (definition_of is x) (IsValueOf t)
  pub of_form : (f : Form) → form_meant m ≡ Some f → form_of is x ≡ Some f
  pub declares : is_declared m ≡ true → IsSome (form_of is x)
  pub other : (f : Form) → form_of is x ≡ Some f → IsOtherOf m f

abbrev pub AreMeant : List PlainInst → List Meaning → Type 0
AreMeant is ms = (x : ℕ) (m : Meaning) → slice_get ms x ≡ Some m → IsMeant is x m
