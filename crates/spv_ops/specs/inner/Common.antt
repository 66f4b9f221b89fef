-- The lines of the table that most instructions have. (For the code alone.)
use Rattle.std.specs.Prelude.{◌≡◌, ℕ, List, [], ◌∷◌, Option, Some, None}
use Rattle.spv_module.specs.Operand.{Plain, OfType, Result, Id, Mask, PlainInst}
use Rattle.spv_type_forms.specs.declared.form.Sort.{Sort}
use Rattle.spv_type_forms.specs.Types.{HasSort, IsBool, IsData, PointsTo}
use Rattle.spv_ops.specs.declared.common.Binary.{Binary as Ids}
use Rattle.spv_ops.specs.declared.common.Two.{Two}

-- two types are r, which is ints, floats or bools; a pointer to r, which is a data type; a pointer and what it points
-- to
abbrev pub Combines : List PlainInst → Sort → ℕ → List ℕ → Type 0
Combines is s r (o ∷ p ∷ []) = (o ≡ r) × (p ≡ r) × HasSort s is r
Combines is s r types = ⊥

abbrev pub Loads : List PlainInst → ℕ → List ℕ → Type 0
Loads is r (o ∷ []) = PointsTo is o r × IsData is r
Loads is r types = ⊥

abbrev pub Stores : List PlainInst → List ℕ → Type 0
Stores is (o ∷ p ∷ []) = PointsTo is o p
Stores is types = ⊥

-- the types are that of a condition alone
abbrev pub IsCondition : List PlainInst → List ℕ → Type 0
IsCondition is (o ∷ []) = IsBool is o
IsCondition is types = ⊥

-- the operands of these rows, as they mostly stand
abbrev pub binary_in : List Plain → Option Ids
binary_in (OfType r ∷ Result x ∷ Id a ∷ Id b ∷ []) = Some (record { result_type = r; first = a; second = b })
binary_in _ = None

abbrev pub load_in : List Plain → Option Two
load_in (OfType r ∷ Result x ∷ Id p ∷ []) = Some (record { first = r; second = p })
load_in (OfType r ∷ Result x ∷ Id p ∷ Mask k m ∷ os) = Some (record { first = r; second = p })
load_in _ = None

abbrev pub store_in : List Plain → Option Two
store_in (Id p ∷ Id x ∷ []) = Some (record { first = p; second = x })
store_in (Id p ∷ Id x ∷ Mask k m ∷ os) = Some (record { first = p; second = x })
store_in _ = None

abbrev pub condition_in : List Plain → Option ℕ
condition_in (Id x ∷ Id l ∷ Id m ∷ []) = Some x
condition_in _ = None
