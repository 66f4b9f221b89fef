-- Y4, operand by operand. [3.49.7]
use Rattle.std.specs.Prelude.{◌≡◌, ◌+◌, ◌<◌, ◌≤◌, ℕ, List, [], ◌∷◌, Bool, true, false, Some, IsSomeAnd}
use Rattle.std.specs.Prelude.{◌-◌, ◌++◌, Option, None, length, nat_eq, nat_le, if◌then◌else◌, option_and_then}
use Rattle.std.specs.Prelude.{option_to_list, slice_get}
use Rattle.spv_module.specs.Operand.{Plain, Word, Number, Value, PlainInst, type_in}
use Rattle.spv_module.specs.Width.{type_of}
use Rattle.spv_type_kinds.specs.Operands.{ids_in, after_head}
use Rattle.spv_type_forms.specs.Parts.{part_of, count_of}
use Rattle.spv_type_forms.specs.declared.form.Form.{Form}
use Rattle.spv_type_forms.specs.declared.form.Form.TheVariants as form
use Rattle.spv_type_kinds.specs.declared.kinds.Object.TheVariants as object
use Rattle.spv_type_forms.specs.Form.{form_of}
use Rattle.spv_type_forms.specs.Types.{IsBool, IsNumber, IsObject}
use Rattle.spv_type_forms.specs.Null.{IsNullable}
use Rattle.spv_type_rules.specs.declared.constant.Constant.{Constant}
use Rattle.spv_type_rules.specs.declared.constant.Constant.TheVariants as kind
use Rattle.spv_type_kinds.specs.declared.kinds.Kind.TheVariants as sort
use Rattle.spv_evidence.specs.declared.condition.Condition.{Condition}
use Rattle.spv_evidence.specs.declared.condition.Condition.TheVariants as condition
use Rattle.spv_readings.specs.Named.{named_at}
use Rattle.spv_readings.specs.Reads.{reads}
use Rattle.spv_type_rules.specs.Constant.{IsPart, FitsWidth, constant_of}

-- the id stands for a constant, of the type of the part k of the type r
abbrev pub IsPartOf : List PlainInst → Bool → ℕ → ℕ → ℕ → Type 0
IsPartOf is spec r k x = IsPart is spec x × IsSomeAnd (part_of is r k) (λ t. type_of is x ≡ Some t)

-- what a composite constant of the type r asks of operand k: as many parts as r has, and of each the type at its place
abbrev pub AsksParts : List PlainInst → Bool → ℕ → List ℕ → ℕ → Type 0
AsksParts is spec r xs k =
    (k ≡ 0 → count_of is r ≡ Some (length xs))
    × ((j x : ℕ) → k ≡ 2 + j → slice_get xs j ≡ Some x → IsPartOf is spec r j x)

-- What a constant of the type r asks of operand k, from 0, by what follows the type and the result: all of these
-- together are what Y4 demands of it. An operand that is not named is free.
abbrev pub AsksOf : List PlainInst → Constant → ℕ → List Plain → ℕ → Type 0
AsksOf is kind.Bool r os k = k ≡ 0 → IsBool is r
AsksOf is kind.Number r (Number low high words ∷ []) k =
    (k ≡ 0 → IsNumber is r) × (k ≡ 2 → FitsWidth is r low)
AsksOf is kind.Composite r os k = AsksParts is false r (ids_in os) k
AsksOf is kind.SpecComposite r os k = AsksParts is true r (ids_in os) k
AsksOf is kind.Null r os k = k ≡ 0 → IsNullable is r
AsksOf is kind.Sampler r (Value a mode ∷ Word n ∷ Value f filter ∷ []) k =
    (k ≡ 0 → IsObject is object.Sampler r) × (k ≡ 3 → n ≤ 1)
AsksOf is kind.PipeStorage r os k = k ≡ 0 → IsObject is object.PipeStorage r
AsksOf is _ r os k = ⊥

-- the same of the operands of an instruction
abbrev pub Asks : List PlainInst → Constant → List Plain → ℕ → Type 0
Asks is c os k = IsSomeAnd (type_in os) (λ r. AsksOf is c r (after_head os) k)

-- A constant fails first at operand k: what is asked of it does not hold, and what is asked of those before it does.
pub record FailsFirst (is : List PlainInst) (i : PlainInst) (k : ℕ) : Type 0 where
  pub kind : Constant
  pub makes : constant_of i.opcode ≡ Some kind
  pub fails : ¬ (Asks is kind i.operands k)
  pub before : (j : ℕ) → j < k → Asks is kind i.operands j

-- What is asked of operand k, by its name. [3.49.7]
abbrev pub condition_at : Constant → ℕ → Condition
condition_at kind.Bool k = condition.Kind sort.Bool
condition_at kind.Number k = if nat_eq k 0 then condition.Kind sort.Number else condition.FitsWidth
condition_at kind.Null k = condition.Kind sort.Data
condition_at kind.Sampler k = if nat_eq k 0 then condition.Kind (sort.Object object.Sampler) else condition.Normalized
condition_at kind.PipeStorage k = condition.Kind (sort.Object object.PipeStorage)
condition_at c k = if nat_eq k 0 then condition.Count else condition.Constituent

-- of a null value: its type is a data type, or where it is the type of objects, an array or a struct, one that has a
-- null value [3.49.7 OpConstantNull]
abbrev pub null_condition : Option Form → Condition
null_condition (Some (form.Object o)) = condition.Nullable
null_condition (Some (form.Array e l)) = condition.Nullable
null_condition (Some form.Struct) = condition.Nullable
null_condition f = condition.Kind sort.Data

-- the same of the constant i
abbrev pub condition_in : List PlainInst → Constant → PlainInst → ℕ → Condition
condition_in is kind.Null i k = null_condition (option_and_then (form_of is) (type_in i.operands))
condition_in is c i k = condition_at c k

-- whether operand k is a constituent of a composite constant [3.49.7]
abbrev pub is_constituent : Constant → ℕ → Bool
is_constituent kind.Composite k = nat_le 2 k
is_constituent kind.SpecComposite k = nat_le 2 k
is_constituent c k = false

-- the type that is found: a constituent's, else the result type [3.49.7]
abbrev pub found_at : List PlainInst → Constant → PlainInst → ℕ → Option ℕ
found_at is c i k = if is_constituent c k then option_and_then (type_of is) (named_at i (Some k))
    else type_in i.operands

-- the type that is wanted of a constituent: that of the part at its place [3.49.7]
abbrev pub wanted_at : List PlainInst → Constant → PlainInst → ℕ → Option ℕ
wanted_at is c i k = if is_constituent c k then option_and_then (λ r. part_of is r (k - 2)) (type_in i.operands)
    else None

-- the composite whose part a constituent is to be: the result type [3.49.7]
abbrev pub composite_at : Constant → PlainInst → ℕ → Option ℕ
composite_at c i k = if is_constituent c k then type_in i.operands else None

-- the types that are read: of a constituent the composite's, the part's and its own, else the result type; and those
-- within these, but for the composite's [3.49.7]
abbrev pub read_at : List PlainInst → Constant → PlainInst → ℕ → List ℕ
read_at is c i k = option_to_list (composite_at c i k) ++ reads is (wanted_at is c i k) (found_at is c i k)
