-- Y2, operand by operand. [3.49.6; widths and counts own]
use Rattle.std.specs.Prelude.{◌≡◌, ◌+◌, ◌<◌, ◌≤◌, ℕ, List, [], ◌∷◌, Some, slice_get, nat_eq, if◌then◌else◌, IsSomeAnd}
use Rattle.spv_module.specs.Operand.{Plain, Result, Id, Word, Value, PlainInst}
use Rattle.spv_type_forms.specs.Form.{form_of}
use Rattle.spv_type_kinds.specs.Operands.{ids_in}
use Rattle.spv_type_forms.specs.Types.{scalar_in, IsData}
use Rattle.spv_type_forms.specs.declared.form.Scalar.{Scalar}
use Rattle.spv_type_forms.specs.declared.objects.Image.{Image}
use Rattle.spv_type_forms.specs.Objects.{image_in, image_of}
use Rattle.spv_type_rules.specs.declared.declaration.Declaration.{Declaration}
use Rattle.spv_type_rules.specs.declared.declaration.Declaration.TheVariants as kind
use Rattle.spv_type_rules.specs.Declaration.{IsLength, IsPointerAfter, IsSampledType, IsSampled, declaration_of}
use Rattle.spv_type_kinds.specs.declared.kinds.Kind.TheVariants.{Data}
use Rattle.spv_evidence.specs.declared.condition.Condition.{Condition}
use Rattle.spv_evidence.specs.declared.condition.Condition.TheVariants as condition
use Rattle.spv_type_rules.specs.Asked.{IsIntWidth, IsFloatWidth, IsVectorCount, IsPointee, IsReturned}

-- the id declares a scalar type
abbrev pub IsScalar : List PlainInst → ℕ → Type 0
IsScalar is c = (s : Scalar) × (scalar_in (form_of is c) ≡ Some s)

-- The ids that follow operand `first` are of data types: what is asked of operand k of these.
abbrev pub AsksData : List PlainInst → ℕ → List Plain → ℕ → Type 0
AsksData is first os k = (j t : ℕ) → k ≡ first + j → slice_get (ids_in os) j ≡ Some t → IsData is t

-- What an image type asks of operand k: of the sampled type, of Depth, Arrayed and MS, and of Sampled.
abbrev pub AsksImage : List PlainInst → ℕ → Image → Type 0
AsksImage is k m = (k ≡ 1 → IsSampledType is m.sampled_type) × (k ≡ 3 → m.depth ≤ 2) × (k ≡ 4 → m.arrayed ≤ 1)
    × (k ≡ 5 → m.multisampled ≤ 1) × (k ≡ 6 → m.sampled ≤ 2)

-- What a declaration at instruction n asks of its operand k, from 0: all of these together are what Y2 demands of it.
-- An operand that is not named is free.
abbrev pub Asks : List PlainInst → ℕ → Declaration → List Plain → ℕ → Type 0
Asks is n kind.Int (Result t ∷ Word w ∷ Word s ∷ []) k = (k ≡ 1 → IsIntWidth w) × (k ≡ 2 → s ≡ 0)
Asks is n kind.Float (Result t ∷ Word w ∷ []) k = k ≡ 1 → IsFloatWidth w
Asks is n kind.Vector (Result t ∷ Id c ∷ Word m ∷ []) k =
    (k ≡ 1 → IsScalar is c) × (k ≡ 2 → IsVectorCount m)
Asks is n kind.Array (Result t ∷ Id e ∷ Id l ∷ []) k = (k ≡ 1 → IsData is e) × (k ≡ 2 → IsLength is l)
Asks is n kind.Struct (Result t ∷ os) k = AsksData is 1 os k
Asks is n kind.Pointer (Result t ∷ Value j class ∷ Id p ∷ []) k = k ≡ 2 → IsPointee is p
Asks is n kind.Function (Result t ∷ Id r ∷ os) k = (k ≡ 1 → IsReturned is r) × AsksData is 2 os k
Asks is n kind.Forward (Id p ∷ Value j class ∷ []) k = k ≡ 0 → IsPointerAfter is n p class
Asks is n kind.Image os k = IsSomeAnd (image_in os) (AsksImage is k)
Asks is n kind.SampledImage (Result t ∷ Id i ∷ []) k = k ≡ 1 → IsSomeAnd (image_of is i) IsSampled
Asks is n _ os k = ⊥

-- A declaration fails first at operand k: what is asked of it does not hold, and what is asked of those before it does.
pub record FailsFirst (is : List PlainInst) (n : ℕ) (i : PlainInst) (k : ℕ) : Type 0 where
  pub kind : Declaration
  pub declares : declaration_of i.opcode ≡ Some kind
  pub fails : ¬ (Asks is n kind i.operands k)
  pub before : (j : ℕ) → j < k → Asks is n kind i.operands j

-- What is asked of an operand of an image type, by its name. [3.49.6 OpTypeImage]
abbrev pub image_condition : ℕ → Condition
image_condition k = if nat_eq k 1 then condition.SampledType
    else (if nat_eq k 3 then condition.Depth
    else (if nat_eq k 4 then condition.Arrayed
    else (if nat_eq k 5 then condition.SampleCount else condition.SampledUse)))

-- What is asked of an operand after the result, by its name. [3.49.6]
abbrev pub condition_after : Declaration → ℕ → Condition
condition_after kind.Int k = if nat_eq k 1 then condition.IntWidth else condition.Signedness
condition_after kind.Float k = condition.FloatWidth
condition_after kind.Vector k = if nat_eq k 1 then condition.Scalar else condition.VectorCount
condition_after kind.Array k = if nat_eq k 1 then condition.Kind Data else condition.Length
condition_after kind.Struct k = condition.Kind Data
condition_after kind.Pointer k = condition.Pointee
condition_after kind.Function k = if nat_eq k 1 then condition.Returned else condition.Kind Data
condition_after kind.Forward k = condition.Forward
condition_after kind.Image k = image_condition k
condition_after kind.SampledImage k = condition.Dimension

-- What is asked of operand k, by its name. A declaration whose operands are not those that it has fails at the first.
-- [3.49.6]
abbrev pub condition_at : Declaration → ℕ → Condition
condition_at kind.Forward k = condition.Forward
condition_at d k = if nat_eq k 0 then condition.Operands else condition_after d k
