-- Y5, condition by condition. [3.49.8, 3.49.10 to 3.49.18, 3.49.20 to 3.49.24; own: the table of types]
use Rattle.std.specs.Prelude.{◌≡◌, ◌≢◌, ◌⊎◌, ℕ, List, Option, Some, None, Bool, true, false}
use Rattle.std.specs.Prelude.{◌++◌, ◌*◌, ◌≤◌, ◌∷◌, [], IsSome, IsSomeAnd, length, option_and_then}
use Rattle.std.specs.List.{AllByRecursion}
use Rattle.spv_module.specs.Operand.{PlainInst}
use Rattle.spv_type_forms.specs.declared.form.Form.{Form}
use Rattle.spv_type_forms.specs.declared.form.Form.TheVariants as form
use Rattle.spv_type_forms.specs.declared.form.Scalar.{Scalar}
use Rattle.spv_type_forms.specs.declared.form.Scalar.TheVariants as scalar
use Rattle.spv_type_forms.specs.declared.form.Sort.TheVariants as sort
use Rattle.spv_type_forms.specs.Form.{form_of}
use Rattle.spv_type_forms.specs.Parts.{AreParts}
use Rattle.spv_type_forms.specs.Matches.{Matches}
use Rattle.spv_type_forms.specs.Types.{components_of, IsInt, IsSomeInt, IsNumber, IsBool, IsMade, HasSort, IsVector}
use Rattle.spv_type_forms.specs.Types.{IsPointer, PointsTo, IsData, IsPlain, IsObject, pointee_in, sort_of}
use Rattle.spv_type_forms.specs.Objects.{pipe_access_of, IsSizeInt, IsSizeArray, IsRangeStruct, IsRange}
use Rattle.spv_conditions.specs.Image.{IsImage, IsSampled, IsTexelPointer, IsPlace, IsIntCoordinate, IsCoordinate}
use Rattle.spv_conditions.specs.Image.{IsExtent, IsTexel, IsNumeric}
use Rattle.spv_type_kinds.specs.declared.kinds.Kind.{Kind}
use Rattle.spv_type_kinds.specs.declared.kinds.Kind.TheVariants as kind
use Rattle.spv_type_kinds.specs.declared.kinds.Relation.{Relation}
use Rattle.spv_type_kinds.specs.declared.kinds.Relation.TheVariants as relation
use Rattle.spv_conditions.specs.Values.{type_at}
use Rattle.spv_conditions.specs.declared.asked.Rest.{Rest}
use Rattle.spv_conditions.specs.declared.asked.Asked.{Asked}
use Rattle.spv_conditions.specs.declared.asked.Asked.TheVariants as asked

-- a vector, a struct or an array [2.2.2 Composite; own: no matrices]
abbrev pub IsComposite : Form → Type 0
IsComposite (form.Vector c n) = Unit {0}
IsComposite form.Struct = Unit {0}
IsComposite (form.Array e l) = Unit {0}
IsComposite f = ⊥

-- the storage classes Workgroup, CrossWorkgroup and Function [3.49.11]
abbrev pub IsNamedClass : ℕ → Type 0
IsNamedClass class = (class ≡ 4) ⊎ (class ≡ 5) ⊎ (class ≡ 7)

-- how many bits n components have, of ints or floats; and those of an I or F type [3.49.11]
abbrev pub scalar_bits : ℕ → Scalar → Option ℕ
scalar_bits n (scalar.Int w) = Some (n * w)
scalar_bits n (scalar.Float w) = Some (n * w)
scalar_bits n scalar.Bool = None

abbrev pub bits_of : List PlainInst → ℕ → Option ℕ
bits_of is t = option_and_then (λ c. scalar_bits c.count c.scalar) (components_of is t)

-- the type t is of a kind [2.2.2, 3.49.6]
abbrev pub IsOf : List PlainInst → Kind → ℕ → Type 0
IsOf is kind.Int t = IsSomeInt is t
IsOf is kind.Int32 t = IsInt is t 32
IsOf is kind.Number t = IsNumber is t
IsOf is kind.Bool t = IsBool is t
IsOf is kind.Data t = IsData is t
IsOf is kind.Plain t = IsPlain is t
IsOf is kind.Ints t = HasSort sort.Int is t
IsOf is kind.Floats t = HasSort sort.Float is t
IsOf is kind.Bools t = HasSort sort.Bool is t
IsOf is kind.Pointer t = (p : ℕ) × PointsTo is t p
IsOf is kind.FunctionPointer t = (p : ℕ) × IsPointer is t 7 p
IsOf is kind.GenericPointer t = (p : ℕ) × IsPointer is t 8 p
IsOf is kind.NamedPointer t = (s p : ℕ) × IsPointer is t s p × IsNamedClass s
IsOf is kind.Vector t = (c n : ℕ) × IsVector is t c n
IsOf is kind.Composite t = IsSomeAnd (form_of is t) IsComposite
IsOf is kind.Scalars t = IsSome (components_of is t)
IsOf is kind.Floats32 t = IsSomeAnd (components_of is t) (λ c. c.scalar ≡ scalar.Float 32)
IsOf is kind.FewInts t = IsSomeAnd (components_of is t) (λ c. (sort_of c.scalar ≡ sort.Int) × (c.count ≤ 3))
IsOf is kind.Ballot t = IsMade is t 4 (scalar.Int 32)
IsOf is kind.Int8Pointer t = IsSomeAnd (pointee_in (form_of is t)) (λ p. IsInt is p 8)
IsOf is kind.Int32Pointer t = IsSomeAnd (pointee_in (form_of is t)) (λ p. IsInt is p 32)
IsOf is kind.PlainPointer t = IsSomeAnd (pointee_in (form_of is t)) (IsPlain is)
IsOf is kind.GlobalPointer t = (p : ℕ) × IsPointer is t 5 p
IsOf is (kind.Object o) t = IsObject is o t
IsOf is (kind.ObjectPointer o) t = IsSomeAnd (pointee_in (form_of is t)) (IsObject is o)
IsOf is (kind.Pipe access) t = pipe_access_of is t ≡ Some access
IsOf is kind.Size t = IsSizeInt is t
IsOf is kind.Sizes t = IsSizeInt is t ⊎ (IsSizeArray is 2 t ⊎ IsSizeArray is 3 t)
IsOf is kind.RangeStruct t = IsRangeStruct is t
IsOf is kind.Range t = IsRange is t
IsOf is kind.NumbersPointer t = IsSomeAnd (pointee_in (form_of is t)) (IsNumeric is)
IsOf is (kind.Image k) t = IsImage is k t
IsOf is kind.SampledImage t = IsSampled is t
IsOf is kind.Four t = (c : ℕ) × IsVector is t c 4

-- two types have components, and these are as many [2.2.2]
abbrev pub HasSameCount : List PlainInst → ℕ → ℕ → Type 0
HasSameCount is t u =
    IsSomeAnd (components_of is t) (λ c. IsSomeAnd (components_of is u) (λ d. c.count ≡ d.count))

-- two types have components, and these are other scalars: of two int or of two float types, of another width [3.49.11]
abbrev pub HasOtherScalar : List PlainInst → ℕ → ℕ → Type 0
HasOtherScalar is t u =
    IsSomeAnd (components_of is t) (λ c. IsSomeAnd (components_of is u) (λ d. c.scalar ≢ d.scalar))

-- two types have as many bits, or are pointers of one storage class [3.49.11 OpBitcast]
abbrev pub HasSameBits : List PlainInst → ℕ → ℕ → Type 0
HasSameBits is t u = ((b : ℕ) × (bits_of is t ≡ Some b) × (bits_of is u ≡ Some b))
    ⊎ ((class p q : ℕ) × IsPointer is t class p × IsPointer is u class q)

-- the type t chooses between values of the type u: all at once, or component by component [3.49.15 OpSelect]
abbrev pub IsChoice : List PlainInst → ℕ → ℕ → Type 0
IsChoice is t u = IsBool is t ⊎ ((c n : ℕ) × IsVector is u c n × IsMade is t n scalar.Bool)

-- the type t is a struct of two members of the type u [3.49.13 OpIAddCarry]
abbrev pub IsPairOf : List PlainInst → ℕ → ℕ → Type 0
IsPairOf is t u = (form_of is t ≡ Some form.Struct) × AreParts is t (u ∷ u ∷ [])

-- two pointers, one of the storage class Workgroup (4) and one of CrossWorkgroup (5) [3.49.21 OpGroupAsyncCopy]
abbrev pub IsAcross : List PlainInst → ℕ → ℕ → Type 0
IsAcross is t u = ((p q : ℕ) × IsPointer is t 4 p × IsPointer is u 5 q)
    ⊎ ((p q : ℕ) × IsPointer is t 5 p × IsPointer is u 4 q)

-- the type t stands to the type u in a relation [2.2.2, 3.49.6, 3.49.8 OpCopyLogical]
abbrev pub Agrees : List PlainInst → Relation → ℕ → ℕ → Type 0
Agrees is relation.Same t u = t ≡ u
Agrees is relation.SameCount t u = HasSameCount is t u
Agrees is relation.OtherWidth t u = HasOtherScalar is t u
Agrees is relation.SameBits t u = HasSameBits is t u
Agrees is relation.Chooses t u = IsChoice is t u
Agrees is relation.PointsTo t u = PointsTo is t u
Agrees is relation.SamePointee t u = (p : ℕ) × PointsTo is t p × PointsTo is u p
Agrees is relation.SameClass t u = (class p q : ℕ) × IsPointer is t class p × IsPointer is u class q
Agrees is relation.VectorOf t u = (n : ℕ) × IsVector is t u n
Agrees is relation.ComponentOf t u = (n : ℕ) × IsVector is u t n
Agrees is relation.SameComponent t u = (c m n : ℕ) × IsVector is t c m × IsVector is u c n
Agrees is relation.PairOf t u = IsPairOf is t u
Agrees is relation.Across t u = IsAcross is t u
Agrees is relation.SampledImageOf t u = form_of is t ≡ Some (form.SampledImage u)
Agrees is relation.TexelPointer t u = IsTexelPointer is t u
Agrees is relation.Place t u = IsPlace is t u
Agrees is relation.IntCoordinate t u = IsIntCoordinate is t u
Agrees is relation.Coordinate t u = IsCoordinate is t u
Agrees is relation.Extent t u = IsExtent is t u
Agrees is relation.Texel t u = IsTexel is t u
Agrees is relation.Matches t u = (t ≢ u) × Matches is t u

-- there is a result type, or none [own]
abbrev pub HasResult : Bool → Option ℕ → Type 0
HasResult true (Some r) = Unit {0}
HasResult false None = Unit {0}
HasResult b r = ⊥

-- A condition holds of a result type, if there is one, and the types of the values. R says what else is asked. [own]
abbrev pub Holds : List PlainInst → (Rest → Type 0) → Option ℕ → List ℕ → Asked → Type 0
Holds is R r types (asked.Operands result values) = HasResult result r × (length types ≡ values)
Holds is R r types (asked.Kind k s) = IsSomeAnd (type_at r types s) (IsOf is k)
Holds is R r types (asked.Relation q s t) =
    IsSomeAnd (type_at r types s) (λ u. IsSomeAnd (type_at r types t) (Agrees is q u))
Holds is R r types (asked.Rest q) = R q

-- The first condition of these that does not hold is a. [own]
pub record FailsFirst (P : Asked → Type 0) (qs : List Asked) (a : Asked) : Type 0 where
  pub before : List Asked
  pub after : List Asked
  pub all : qs ≡ before ++ a ∷ after
  pub hold : AllByRecursion P before
  pub fails : ¬ (P a)
