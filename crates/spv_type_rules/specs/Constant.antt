-- Y4: constants. [3.49.7]
use Rattle.std.specs.Prelude.{◌<◌, ◌≤◌, ◌^◌, ◌⊎◌, ℕ, List, [], ◌∷◌, Option, Some, None, Bool, true}
use Rattle.std.specs.Prelude.{false, nat_eq, nat_le, ◌&&◌, ◌||◌, if◌then◌else◌, IsTrue, IsSomeAnd}
use Rattle.std.specs.List.{AllByRecursion}
use Rattle.spv_module.specs.declared.opcode.TheConstants as opcode
use Rattle.spv_module.specs.Operand.{Plain, Word, Number, Value, PlainInst}
use Rattle.spv_module.specs.Width.{definition_of}
use Rattle.spv_type_kinds.specs.declared.kinds.Object.TheVariants as object
use Rattle.spv_type_forms.specs.Types.{IsInt, IsFloat, IsBool, IsObject}
use Rattle.spv_type_forms.specs.Null.{IsNullable}
use Rattle.spv_type_kinds.specs.Operands.{ids_in}
use Rattle.spv_type_forms.specs.Parts.{AreParts}
use Rattle.spv_type_forms.specs.Values.{types_of}
use Rattle.spv_type_rules.specs.declared.constant.Constant.{Constant}
use Rattle.spv_type_rules.specs.declared.constant.Constant.TheVariants as constant

-- the constants by opcode, the spec forms too [3.49.7]
abbrev pub constant_of : ℕ → Option Constant
constant_of n = if nat_eq n opcode.CONSTANT_TRUE || nat_eq n opcode.CONSTANT_FALSE || nat_eq n opcode.SPEC_CONSTANT_TRUE
    || nat_eq n opcode.SPEC_CONSTANT_FALSE then Some constant.Bool
    else (if nat_eq n opcode.CONSTANT || nat_eq n opcode.SPEC_CONSTANT then Some constant.Number
    else (if nat_eq n opcode.CONSTANT_COMPOSITE then Some constant.Composite
    else (if nat_eq n opcode.SPEC_CONSTANT_COMPOSITE then Some constant.SpecComposite
    else (if nat_eq n opcode.CONSTANT_NULL then Some constant.Null
    else (if nat_eq n opcode.CONSTANT_SAMPLER then Some constant.Sampler
    else (if nat_eq n opcode.CONSTANT_PIPE_STORAGE then Some constant.PipeStorage else None))))))

-- the id is that of what a composite constant is made of: OpUndef, OpConstantTrue to OpConstantNull and
-- OpConstantPipeStorage, in the spec form also OpSpecConstantTrue to OpSpecConstantComposite [3.49.7]
abbrev pub is_part_opcode : Bool → ℕ → Bool
is_part_opcode spec n = nat_eq n opcode.UNDEF || (nat_le opcode.CONSTANT_TRUE n && nat_le n opcode.CONSTANT_NULL)
    || nat_eq n opcode.CONSTANT_PIPE_STORAGE
    || (spec && nat_le opcode.SPEC_CONSTANT_TRUE n && nat_le n opcode.SPEC_CONSTANT_COMPOSITE)

abbrev pub IsPart : List PlainInst → Bool → ℕ → Type 0
IsPart is spec x = IsSomeAnd (definition_of is x) (λ d. IsTrue (is_part_opcode spec d.opcode))

-- a number's low word at an int or float type of width w: for w below 32 the bits from w up are 0 [3.49.7]
abbrev pub FitsWidth : List PlainInst → ℕ → ℕ → Type 0
FitsWidth is r low = (w : ℕ) × (IsInt is r w ⊎ IsFloat is r w) × (w < 32 → low < 2 ^ w)

-- the parts of a composite constant: as many as the type has, each a constant or OpUndef of the type there [3.49.7]
abbrev pub AreConstantParts : List PlainInst → Bool → ℕ → List ℕ → Type 0
AreConstantParts is spec r xs = AllByRecursion (IsPart is spec) xs × IsSomeAnd (types_of is xs) (AreParts is r)

-- The operands behind the head are those that a constant of the type may have. [3.49.7]
abbrev pub Constitutes : List PlainInst → Constant → ℕ → List Plain → Type 0
Constitutes is constant.Bool r os = IsBool is r
Constitutes is constant.Number r (Number low high words ∷ []) = FitsWidth is r low
Constitutes is constant.Composite r os = AreConstantParts is false r (ids_in os)
Constitutes is constant.SpecComposite r os = AreConstantParts is true r (ids_in os)
Constitutes is constant.Null r os = IsNullable is r
Constitutes is constant.Sampler r (Value a mode ∷ Word n ∷ Value f filter ∷ []) =
    IsObject is object.Sampler r × (n ≤ 1)
Constitutes is constant.PipeStorage r os = IsObject is object.PipeStorage r
Constitutes is _ r os = ⊥
