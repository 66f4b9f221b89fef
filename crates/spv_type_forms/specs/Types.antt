-- The words of the rows of types. `is` are the instructions of the module, and types are named by their ids. [2.2.2]
use Rattle.std.specs.Prelude.{◌≡◌, ◌⊎◌, ℕ, List, Option, Some, None, option_and_then, option_map}
use Rattle.std.specs.Prelude.{IsSomeAnd}
use Rattle.spv_module.specs.Operand.{PlainInst}
use Rattle.spv_type_forms.specs.declared.form.Scalar.{Scalar}
use Rattle.spv_type_forms.specs.declared.form.Scalar.TheVariants as scalar
use Rattle.spv_type_forms.specs.declared.form.Form.{Form}
use Rattle.spv_type_forms.specs.declared.form.Form.TheVariants as form
use Rattle.spv_type_kinds.specs.declared.kinds.Object.{Object}
use Rattle.spv_type_forms.specs.declared.form.Sort.{Sort}
use Rattle.spv_type_forms.specs.declared.form.Sort.TheVariants as sort
use Rattle.spv_type_forms.specs.declared.form.Components.{Components}
use Rattle.spv_type_forms.specs.Form.{form_of}

-- the scalar type that an id declares; the components of a scalar or vector type, and of the type that an id declares:
-- their type, and how many there are [2.2.2]
abbrev pub scalar_in : Option Form → Option Scalar
scalar_in (Some (form.Scalar s)) = Some s
scalar_in _ = None

abbrev pub components_in : List PlainInst → Form → Option Components
components_in is (form.Scalar s) = Some (record { scalar = s; count = 1 })
components_in is (form.Vector c n) = option_map (λ s. record { scalar = s; count = n }) (scalar_in (form_of is c))
components_in is _ = None

abbrev pub components_of : List PlainInst → ℕ → Option Components
components_of is t = option_and_then (components_in is) (form_of is t)

-- an int of width w; a float of width w; a bool; an int type; an int or a float type [2.2.2, 3.49.6]
abbrev pub IsInt : List PlainInst → ℕ → ℕ → Type 0
IsInt is t w = form_of is t ≡ Some (form.Scalar (scalar.Int w))

abbrev pub IsFloat : List PlainInst → ℕ → ℕ → Type 0
IsFloat is t w = form_of is t ≡ Some (form.Scalar (scalar.Float w))

abbrev pub IsBool : List PlainInst → ℕ → Type 0
IsBool is t = form_of is t ≡ Some (form.Scalar scalar.Bool)

abbrev pub IsSomeInt : List PlainInst → ℕ → Type 0
IsSomeInt is t = (w : ℕ) × IsInt is t w

abbrev pub IsNumber : List PlainInst → ℕ → Type 0
IsNumber is t = IsSomeInt is t ⊎ ((w : ℕ) × IsFloat is t w)

-- A type of n components of the scalar type s: s itself, which is one component, or a vector of n of them. An I type if
-- they are ints, an F type if floats, a B type if bools. [own: Y5]
abbrev pub IsMade : List PlainInst → ℕ → ℕ → Scalar → Type 0
IsMade is t n s = components_of is t ≡ Some (record { scalar = s; count = n })

-- whether a scalar is an int, a float or a bool, whatever its width; an I, F or B type, whatever its width [own: Y5]
abbrev pub sort_of : Scalar → Sort
sort_of (scalar.Int w) = sort.Int
sort_of (scalar.Float w) = sort.Float
sort_of scalar.Bool = sort.Bool

abbrev pub HasSort : Sort → List PlainInst → ℕ → Type 0
HasSort s is t = IsSomeAnd (components_of is t) (λ c. sort_of c.scalar ≡ s)

-- a vector of n components of type c; a pointer of a storage class to a type; the type that a pointer points to; its
-- storage class; a pointer to a type, of any storage class [3.49.6]
abbrev pub IsVector : List PlainInst → ℕ → ℕ → ℕ → Type 0
IsVector is t c n = form_of is t ≡ Some (form.Vector c n)

abbrev pub IsPointer : List PlainInst → ℕ → ℕ → ℕ → Type 0
IsPointer is t class p = form_of is t ≡ Some (form.Pointer class p)

abbrev pub pointee_in : Option Form → Option ℕ
pointee_in (Some (form.Pointer class p)) = Some p
pointee_in _ = None

abbrev pub class_in : Option Form → Option ℕ
class_in (Some (form.Pointer class p)) = Some class
class_in _ = None

abbrev pub PointsTo : List PlainInst → ℕ → ℕ → Type 0
PointsTo is t p = pointee_in (form_of is t) ≡ Some p

-- A data type: an int, float, bool, vector, array, struct or pointer type, or that of an object; and an id that
-- declares one. [own: Y5]
abbrev pub IsDataForm : Form → Type 0
IsDataForm form.Void = ⊥
IsDataForm form.Opaque = ⊥
IsDataForm form.Function = ⊥
IsDataForm (form.SampledImage i) = ⊥
IsDataForm _ = Unit {0}

abbrev pub IsData : List PlainInst → ℕ → Type 0
IsData is t = IsSomeAnd (form_of is t) IsDataForm

-- a type of objects of a sort [3.49.6]
abbrev pub IsObject : List PlainInst → Object → ℕ → Type 0
IsObject is o t = form_of is t ≡ Some (form.Object o)

-- a data type, but for those of objects; and an id that declares one [own: Y5]
abbrev pub IsPlainForm : Form → Type 0
IsPlainForm (form.Object o) = ⊥
IsPlainForm f = IsDataForm f

abbrev pub IsPlain : List PlainInst → ℕ → Type 0
IsPlain is t = IsSomeAnd (form_of is t) IsPlainForm
