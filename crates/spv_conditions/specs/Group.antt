-- What stands among the operands of an instruction in any place, and what rows ask of it. [3.49.21, 3.49.24; own: Y5]
use Rattle.std.specs.Prelude.{◌≡◌, ◌⊎◌, ◌≤◌, ℕ, List, [], ◌∷◌, Option, Some, None, IsSomeAnd, MatchOption}
use Rattle.std.specs.Prelude.{option_and_then, slice_get}
use Rattle.spv_module.specs.Operand.{Plain, Id, Value, PlainInst}
use Rattle.spv_type_forms.specs.Definitions.{IsConstant}
use Rattle.spv_type_forms.specs.declared.form.Scalar.TheVariants as scalar
use Rattle.spv_type_forms.specs.declared.form.Form.{Form}
use Rattle.spv_type_forms.specs.declared.form.Form.TheVariants as form
use Rattle.spv_type_forms.specs.Form.{form_of}
use Rattle.spv_type_forms.specs.Types.{IsInt, IsSomeInt}

-- the first enumerant among operands; the ids among them, in order [own]
abbrev pub enumerant_in : List Plain → Option ℕ
enumerant_in [] = None
enumerant_in (Value k x ∷ os) = Some x
enumerant_in (_ ∷ os) = enumerant_in os

abbrev pub all_ids_in : List Plain → List ℕ
all_ids_in [] = []
all_ids_in (Id x ∷ os) = x ∷ all_ids_in os
all_ids_in (_ ∷ os) = all_ids_in os

-- the value of that number, from 0, is a constant [own]
abbrev pub IsConstantAt : List PlainInst → PlainInst → ℕ → Type 0
IsConstantAt is i k = IsSomeAnd (slice_get (all_ids_in i.operands) k) (IsConstant is)

-- The group operation is Reduce (0), InclusiveScan (1) or ExclusiveScan (2). There are so many values: a scope and a
-- value, and for ClusteredReduce (3) the size of the clusters. [3.28; 3.49.24]
abbrev pub IsScan : PlainInst → Type 0
IsScan i = IsSomeAnd (enumerant_in i.operands) (λ g. g ≤ 2)

abbrev pub HasClusters : PlainInst → ℕ → Type 0
HasClusters i count = IsSomeAnd (enumerant_in i.operands)
    (λ g. ((g ≤ 2) × (count ≡ 2)) ⊎ ((g ≡ 3) × (count ≡ 3)))

-- the size of the clusters, if it is there, is a constant of int type [3.49.24]
abbrev pub IsClusterSize : List PlainInst → PlainInst → List ℕ → Type 0
IsClusterSize is i types =
    MatchOption (slice_get types 2) (Unit {0}) (λ t. IsSomeInt is t × IsConstantAt is i 2)

-- The width of an int type, and of the ints of a vector. Of the first operand of a dot product, by its type o and the
-- result type r: an int of width 32, where there is a packed vector format; where there is none a vector of ints no
-- wider than the result. [3.49.13 OpSDot]
abbrev pub int_width_in : Form → Option ℕ
int_width_in (form.Scalar (scalar.Int w)) = Some w
int_width_in _ = None

abbrev pub int_width_of : List PlainInst → ℕ → Option ℕ
int_width_of is t = option_and_then int_width_in (form_of is t)

abbrev pub part_width_in : List PlainInst → Form → Option ℕ
part_width_in is (form.Vector c n) = int_width_of is c
part_width_in is _ = None

abbrev pub part_width_of : List PlainInst → ℕ → Option ℕ
part_width_of is t = option_and_then (part_width_in is) (form_of is t)

abbrev pub IsNoWider : List PlainInst → ℕ → ℕ → Type 0
IsNoWider is r o = IsSomeAnd (part_width_of is o) (λ w. IsSomeAnd (int_width_of is r) (λ v. w ≤ v))

abbrev pub IsPacked : List PlainInst → Option ℕ → ℕ → ℕ → Type 0
IsPacked is (Some format) r o = IsInt is o 32
IsPacked is None r o = IsNoWider is r o
