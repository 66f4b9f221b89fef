-- What is counted of the instructions before one. (For the code alone.)
use Rattle.std.specs.Prelude.{◌≡◌, ◌<◌, ◌≤◌, ◌+◌, ◌⊎◌, ◌↔◌, ℕ, List, ◌∷◌, Some, Bool, true, false, IsTrue, slice_get}
use Rattle.std.specs.Prelude.{if◌then◌else◌}
use Rattle.std.specs.BTreeMap.{BTreeMap}
use Rattle.spv_module.specs.Operand.{Plain, Result, Id, PlainInst}
use Rattle.spv_ids.specs.Outcome.{IsOnly}
use Rattle.spv_limits.specs.declared.past.Counts.{Counts}
use Rattle.spv_limits.specs.declared.table.Limit.{Limit}
use Rattle.spv_limits.specs.declared.table.Limit.TheVariants as limit
use Rattle.spv_limits.specs.Counted.{is_variable, locals_before, modes_before, sets_mode, variables_before}
use Rattle.spv_limits.specs.Depth.{IsDeep}
use Rattle.spv_limits.specs.Past.{IsInFunctions}
use Rattle.spv_limits.specs.Table.{most}
use Rattle.spv_limits.specs.inner.Kept.{kept}

-- Yes, it is so; or it is not so, and something else is.
abbrev pub IsAnswer : Bool → Type 0 → Type 0 → Type 0
IsAnswer true P Q = P
IsAnswer false P Q = (¬ P) × Q

-- how deep the struct of instruction k is; 0 where it declares none
abbrev pub IsDepth : List PlainInst → ℕ → ℕ → Type 0
IsDepth is k d = ((e : ℕ) → IsDeep is k e → e ≤ d) × ((d ≡ 0) ⊎ IsDeep is k d)

-- The depths of the structs before instruction n are kept, and none passes the limit.
pub record AreDepths (is : List PlainInst) (n : ℕ) (m : BTreeMap ℕ ℕ) : Type 0 where
  pub known : (k : ℕ) → k < n → IsDepth is k (kept m k)
  pub later : (k : ℕ) → n ≤ k → kept m k ≡ 0
  pub few : (k : ℕ) → kept m k ≤ 255

-- what is kept of the definition of an operand, if it is an id
abbrev pub IsOperandDepth : List PlainInst → BTreeMap ℕ ℕ → Plain → ℕ → Type 0
IsOperandDepth is m (Id x) d =
    ((k : ℕ) → IsOnly is x k → kept m k ≡ d) × ((d ≡ 0) ⊎ ((k : ℕ) × IsOnly is x k × (kept m k ≡ d)))
IsOperandDepth is m o d = d ≡ 0

-- the greatest that is kept of the definitions of some operands
abbrev pub IsReached : List PlainInst → BTreeMap ℕ ℕ → List Plain → ℕ → Type 0
IsReached is m os e =
    (e ≡ 0) ⊎ ((p x k : ℕ) × (slice_get os p ≡ Some (Id x)) × IsOnly is x k × (kept m k ≡ e))

pub record IsDeepest (is : List PlainInst) (m : BTreeMap ℕ ℕ) (os : List Plain) (e : ℕ) : Type 0 where
  pub bound : (p x k : ℕ) → slice_get os p ≡ Some (Id x) → IsOnly is x k → kept m k ≤ e
  pub reached : IsReached is m os e

-- how deep a struct of these operands is
abbrev pub IsStructDepth : List PlainInst → BTreeMap ℕ ℕ → List Plain → ℕ → Type 0
IsStructDepth is m (Result t ∷ os) d = (e : ℕ) × (d ≡ e + 1) × IsDeepest is m os e
IsStructDepth is m os d = d ≡ 0

-- instruction n declares a struct that is too deep; gives a mode too many; declares a variable too many
abbrev pub IsTooDeep : List PlainInst → ℕ → Type 0
IsTooDeep is n = (d : ℕ) × IsDeep is n d × (most limit.Depth < d)

abbrev pub HasModeTooMany : List PlainInst → ℕ → PlainInst → Type 0
HasModeTooMany is n i = (f : ℕ) × (sets_mode f i ≡ true) × (most limit.Modes ≤ modes_before is f n)

abbrev pub IsVariableTooMany : List PlainInst → ℕ → PlainInst → Type 0
IsVariableTooMany is n i = (is_variable i ≡ true)
    × ((¬ (IsInFunctions is n) × (most limit.Globals ≤ variables_before is n))
    ⊎ (IsInFunctions is n × (most limit.Locals ≤ locals_before is n)))

-- The modes given before instruction n are counted; the variables declared before it.
pub record AreModes (is : List PlainInst) (n : ℕ) (m : BTreeMap ℕ ℕ) : Type 0 where
  pub counted : (f : ℕ) → kept m f ≡ modes_before is f n
  pub few : (f : ℕ) → kept m f ≤ 255

-- the limit of variables in functions, or before them
abbrev pub limit_of : Bool → Limit
limit_of true = limit.Locals
limit_of false = limit.Globals

pub record AreVariables (is : List PlainInst) (n : ℕ) (are_local : Bool) (count : ℕ) : Type 0 where
  pub where_they_are : IsTrue are_local ↔ IsInFunctions is n
  pub counted : count ≡ (if are_local then locals_before is n else variables_before is n)
  pub few : count ≤ most (limit_of are_local)

-- The instructions before instruction n are counted, and none of them passes the limits on depth, modes and variables.
pub record IsUpTo (is : List PlainInst) (n : ℕ) (counts : Counts) : Type 0 where
  pub depths : AreDepths is n counts.depths
  pub modes : AreModes is n counts.modes
  pub variables : AreVariables is n counts.variables.are_local counts.variables.count
