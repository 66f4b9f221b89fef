-- Y10, condition by condition. [OpenCL Extended Instruction Set Specification; own]
use Rattle.std.specs.Prelude.{◌≡◌, ◌≢◌, ◌≤◌, ◌⊎◌, ◌+◌, ◌*◌, ◌++◌, ℕ, List, ◌∷◌, Option, Some, None, slice_get}
use Rattle.std.specs.Prelude.{option_and_then, IsSomeAnd}
use Rattle.std.specs.List.{AllByRecursion}
use Rattle.spv_module.specs.Operand.{Plain, Id, Argument, PlainInst}
use Rattle.spv_module.specs.Width.{type_of}
use Rattle.spv_type_forms.specs.declared.form.Form.{Form}
use Rattle.spv_type_forms.specs.declared.form.Form.TheVariants as form
use Rattle.spv_type_forms.specs.declared.form.Scalar.{Scalar}
use Rattle.spv_type_forms.specs.declared.form.Scalar.TheVariants as scalar
use Rattle.spv_type_forms.specs.declared.form.Sort.TheVariants as sort
use Rattle.spv_type_forms.specs.Form.{form_of}
use Rattle.spv_type_forms.specs.Types.{components_of, HasSort, IsFloat, IsPointer, pointee_in}
use Rattle.spv_conditions.specs.Condition as conditions
use Rattle.spv_std_types.specs.declared.condition.Among.{Among}
use Rattle.spv_std_types.specs.declared.condition.Among.TheVariants as among
use Rattle.spv_std_types.specs.declared.condition.Classes.{Classes}
use Rattle.spv_std_types.specs.declared.condition.Classes.TheVariants as classes
use Rattle.spv_std_types.specs.declared.condition.Condition.{Condition}
use Rattle.spv_std_types.specs.declared.condition.Condition.TheVariants as condition
use Rattle.spv_std_types.specs.declared.condition.Number.{Number}
use Rattle.spv_std_types.specs.declared.condition.Number.TheVariants as number
use Rattle.spv_std_types.specs.declared.condition.Relation.{Relation}
use Rattle.spv_std_types.specs.declared.condition.Relation.TheVariants as relation
use Rattle.spv_std_types.specs.declared.condition.Subject.{Subject}
use Rattle.spv_std_types.specs.declared.condition.Subject.TheVariants as subject
use Rattle.spv_std_types.specs.declared.condition.Wanted.{Wanted}
use Rattle.spv_std_types.specs.declared.condition.Wanted.TheVariants as wanted

-- a number is one of some [own]
abbrev pub IsAmong : Among → ℕ → Type 0
IsAmong (among.One a) n = n ≡ a
IsAmong (among.Two a b) n = (n ≡ a) ⊎ (n ≡ b)
IsAmong (among.Three a b c) n = (n ≡ a) ⊎ (n ≡ b) ⊎ (n ≡ c)
IsAmong (among.Four a b c d) n = (n ≡ a) ⊎ (n ≡ b) ⊎ (n ≡ c) ⊎ (n ≡ d)
IsAmong (among.AtMost a) n = n ≤ a
IsAmong (among.Not a) n = n ≢ a

-- A store may name the storage classes Workgroup (4), CrossWorkgroup (5), Function (7) and Generic (8), a load
-- UniformConstant (0) too. [SPIR-V 1.6, 3.7; OpenCL Extended Instruction Set, 2.5]
abbrev pub IsStored : ℕ → Type 0
IsStored class = (class ≡ 4) ⊎ (class ≡ 5) ⊎ (class ≡ 7) ⊎ (class ≡ 8)

abbrev pub IsClass : Classes → ℕ → Type 0
IsClass classes.Stored class = IsStored class
IsClass classes.Loaded class = IsStored class ⊎ (class ≡ 0)
IsClass (classes.Only own) class = class ≡ own

-- how wide an int or a float is; and the components of a type are [2.2.2]
abbrev pub width_in : Scalar → Option ℕ
width_in (scalar.Int w) = Some w
width_in (scalar.Float w) = Some w
width_in scalar.Bool = None

abbrev pub width_of : List PlainInst → ℕ → Option ℕ
width_of is t = option_and_then (λ c. width_in c.scalar) (components_of is t)

-- the component type of a type; that of a scalar is the scalar [2.2.2]
abbrev pub component_in : ℕ → Form → Option ℕ
component_in t (form.Scalar s) = Some t
component_in t (form.Vector c n) = Some c
component_in t f = None

abbrev pub component_of : List PlainInst → ℕ → Option ℕ
component_of is t = option_and_then (component_in t) (form_of is t)

-- The type t is void; a half, a float of width 16; an I or F type; it has so many components; these have such a width;
-- it is a pointer of such a storage class. [2.2.2, 3.49.6]
abbrev pub IsVoid : List PlainInst → ℕ → Type 0
IsVoid is t = form_of is t ≡ Some form.Void

abbrev pub IsHalf : List PlainInst → ℕ → Type 0
IsHalf is t = IsFloat is t 16

abbrev pub IsNumbers : List PlainInst → ℕ → Type 0
IsNumbers is t = HasSort sort.Int is t ⊎ HasSort sort.Float is t

abbrev pub HasCount : List PlainInst → Among → ℕ → Type 0
HasCount is a t = IsSomeAnd (components_of is t) (λ c. IsAmong a c.count)

abbrev pub HasWidth : List PlainInst → Among → ℕ → Type 0
HasWidth is a t = IsSomeAnd (width_of is t) (IsAmong a)

abbrev pub IsPointerIn : List PlainInst → Classes → ℕ → Type 0
IsPointerIn is cs t = (class p : ℕ) × IsPointer is t class p × IsClass cs class

abbrev pub IsWanted : List PlainInst → Wanted → ℕ → Type 0
IsWanted is (wanted.Kind k) t = conditions.IsOf is k t
IsWanted is wanted.Void t = IsVoid is t
IsWanted is wanted.Numbers t = IsNumbers is t
IsWanted is wanted.Half t = IsHalf is t
IsWanted is (wanted.Count a) t = HasCount is a t
IsWanted is (wanted.Width a) t = HasWidth is a t
IsWanted is (wanted.Pointer cs) t = IsPointerIn is cs t

-- Of two types: they have as many components; these are as wide; those of the first are half as wide; the types have
-- one component type; the first is the component type of the second. [2.2.2]
abbrev pub HasSameCount : List PlainInst → ℕ → ℕ → Type 0
HasSameCount is t u = conditions.HasSameCount is t u

abbrev pub HasSameWidth : List PlainInst → ℕ → ℕ → Type 0
HasSameWidth is t u = IsSomeAnd (width_of is t) (λ v. IsSomeAnd (width_of is u) (λ w. v ≡ w))

abbrev pub HasHalfWidth : List PlainInst → ℕ → ℕ → Type 0
HasHalfWidth is t u = IsSomeAnd (width_of is t) (λ v. IsSomeAnd (width_of is u) (λ w. 2 * v ≡ w))

abbrev pub HasSameComponent : List PlainInst → ℕ → ℕ → Type 0
HasSameComponent is t u = IsSomeAnd (component_of is t) (λ c. IsSomeAnd (component_of is u) (λ d. c ≡ d))

abbrev pub IsComponentOf : List PlainInst → ℕ → ℕ → Type 0
IsComponentOf is t u = component_of is u ≡ Some t

abbrev pub Agrees : List PlainInst → Relation → ℕ → ℕ → Type 0
Agrees is relation.Same t u = t ≡ u
Agrees is relation.SameCount t u = HasSameCount is t u
Agrees is relation.SameWidth t u = HasSameWidth is t u
Agrees is relation.HalfWidth t u = HasHalfWidth is t u
Agrees is relation.SameComponent t u = HasSameComponent is t u
Agrees is relation.ComponentOf t u = IsComponentOf is t u

-- The type of the operand of a number, from 0, behind the number of the instruction, if it is a value, and the type
-- that this one points to. In a module that is opened such a value is an `Argument`. [2.3]
abbrev pub value_type : List PlainInst → Plain → Option ℕ
value_type is (Argument x) = type_of is x
value_type is o = None

abbrev pub value_at : List PlainInst → List Plain → ℕ → Option ℕ
value_at is os k = option_and_then (value_type is) (slice_get os k)

abbrev pub pointee_at : List PlainInst → List Plain → ℕ → Option ℕ
pointee_at is os k = option_and_then (λ t. pointee_in (form_of is t)) (value_at is os k)

-- the type that is looked at, where r is the result type [own]
abbrev pub type_at : List PlainInst → ℕ → List Plain → Subject → Option ℕ
type_at is r os subject.Result = Some r
type_at is r os (subject.Value k) = value_at is os k
type_at is r os (subject.Pointee k) = pointee_at is os k

-- The number that an operand is. Decoding reads each word behind the number of the instruction as an id, and opening a
-- module leaves those that are numbers as they are. [own]
abbrev pub number_in : Plain → Option ℕ
number_in (Id n) = Some n
number_in o = None

abbrev pub number_at : List Plain → ℕ → Option ℕ
number_at os k = option_and_then number_in (slice_get os k)

-- a number is how many components the result type r has, or a rounding mode [OpenCL Extended Instruction Set, 2.5]
abbrev pub IsNumber : List PlainInst → ℕ → Number → ℕ → Type 0
IsNumber is r number.Count n = HasCount is (among.One n) r
IsNumber is r number.Rounding n = n ≤ 3

-- A condition holds of the result type r and the operands behind the number of the instruction. [own: Y10]
abbrev pub Holds : List PlainInst → ℕ → List Plain → Condition → Type 0
Holds is r os (condition.Type s w) = IsSomeAnd (type_at is r os s) (IsWanted is w)
Holds is r os (condition.Relation s q t) =
    IsSomeAnd (type_at is r os s) (λ u. IsSomeAnd (type_at is r os t) (Agrees is q u))
Holds is r os (condition.Number k w) = IsSomeAnd (number_at os k) (IsNumber is r w)

-- The operand that fails where a condition does not hold, as instructions number their operands: 0 is the result type,
-- 1 the result, 2 the set, 3 the number, and 4 the first one behind it. [own]
abbrev pub operand_at : Subject → ℕ
operand_at subject.Result = 0
operand_at (subject.Value k) = 4 + k
operand_at (subject.Pointee k) = 4 + k

abbrev pub operand_of : Condition → ℕ
operand_of (condition.Type s w) = operand_at s
operand_of (condition.Relation s q t) = operand_at s
operand_of (condition.Number k w) = 4 + k

-- The first condition of these that does not hold is a. [own]
pub record FailsFirst (P : Condition → Type 0) (qs : List Condition) (a : Condition) : Type 0 where
  pub before : List Condition
  pub after : List Condition
  pub all : qs ≡ before ++ a ∷ after
  pub hold : AllByRecursion P before
  pub fails : ¬ (P a)
