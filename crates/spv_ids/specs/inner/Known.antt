-- What is known of the definitions of ids. (For the code alone.)
use Rattle.std.specs.Prelude.{◌≡◌, ◌<◌, ◌≤◌, ◌⊎◌, ℕ, List, [], ◌∷◌, Option, Some}
use Rattle.std.specs.Prelude.{MatchOption, length}
use Rattle.spv_module.specs.Operand.{PlainInst}
use Rattle.spv_layout.specs.declared.class.Class.TheVariants.{Function, FunctionEnd}
use Rattle.spv_layout.specs.Place.{IsAt, IsOfFunction}
use Rattle.spv_ids.specs.declared.notes.Notes.{Notes}
use Rattle.spv_ids.specs.Definition.{IsDefinedAt}
use Rattle.spv_ids.specs.Order.{Announces}
use Rattle.spv_ids.specs.Broken.{IsOutOfRange}
use Rattle.spv_ids.specs.inner.Notes.{kept}

-- Instruction m is of the function whose OpFunction is f, after it and before its OpFunctionEnd.
pub record IsHome (is : List PlainInst) (m f : ℕ) : Type 0 where
  pub of : IsOfFunction is m f
  pub after : f < m
  pub before : ¬ (IsAt is m (FunctionEnd ∷ []))

-- the one definition of the id before instruction n, if there is one
pub record IsTheOne (is : List PlainInst) (n x m : ℕ) : Type 0 where
  pub below : m < n
  pub there : IsDefinedAt is x m
  pub only : (k : ℕ) → k < n → IsDefinedAt is x k → k ≡ m

abbrev pub IsOneBefore : List PlainInst → ℕ → ℕ → Option ℕ → Type 0
IsOneBefore is n x o = MatchOption o ((k : ℕ) → k < n → ¬ (IsDefinedAt is x k)) (λ m. IsTheOne is n x m)

-- The notes have of each id its one definition before instruction n, and the results before n are in range.
pub record AreFirst (bound : ℕ) (is : List PlainInst) (n : ℕ) (firsts : Notes) : Type 0 where
  pub one : (x : ℕ) → IsOneBefore is n x (kept firsts x)
  pub range : (m x : ℕ) → m < n → IsDefinedAt is x m → ¬ (IsOutOfRange bound x)

-- the result of instruction n is out of range, or has an earlier definition
pub record IsBadResult (bound : ℕ) (is : List PlainInst) (n : ℕ) : Type 0 where
  pub id : ℕ
  pub there : IsDefinedAt is id n
  pub bad : IsOutOfRange bound id ⊎ ((m : ℕ) × (m < n) × IsDefinedAt is id m)

-- all instructions are before n, or n is the first with a bad result
abbrev pub IsEnd : ℕ → List PlainInst → ℕ → Type 0
IsEnd bound is n = (n ≡ length is) ⊎ IsBadResult bound is n

-- The function of an instruction, if it is of one.
abbrev pub IsFunctionOf : List PlainInst → ℕ → Option ℕ → Type 0
IsFunctionOf is n o = MatchOption o ((f : ℕ) → ¬ (IsOfFunction is n f)) (λ f. IsOfFunction is n f)

-- Instruction m is local where instruction k is, and to the function of the instruction `from` where k is.
pub record IsAsLocal (is : List PlainInst) (from m k : ℕ) : Type 0 where
  pub home : (f : ℕ) → IsHome is k f → (g : ℕ) × IsHome is m g
  pub here : (f : ℕ) → IsOfFunction is from f → IsHome is k f → IsHome is m f

-- the most local definition of the id from one instruction to before another
pub record IsMostLocal (is : List PlainInst) (from to x m : ℕ) : Type 0 where
  pub above : from ≤ m
  pub below : m < to
  pub there : IsDefinedAt is x m
  pub most : (k : ℕ) → from ≤ k → k < to → IsDefinedAt is x k → IsAsLocal is from m k

abbrev pub IsLaterOne : List PlainInst → ℕ → ℕ → ℕ → Option ℕ → Type 0
IsLaterOne is from to x o =
    MatchOption o ((k : ℕ) → from ≤ k → k < to → ¬ (IsDefinedAt is x k)) (λ m. IsMostLocal is from to x m)

-- The notes have of each id its most local definition from one instruction to before another.
pub record AreLater (is : List PlainInst) (from to : ℕ) (later : Notes) : Type 0 where
  pub each : (x : ℕ) → IsLaterOne is from to x (kept later x)

-- whether an OpTypeForwardPointer before instruction n names the id
pub record IsAnnounced (is : List PlainInst) (n x m : ℕ) : Type 0 where
  pub below : m < n
  pub there : Announces is m x

abbrev pub IsAnnouncedBefore : List PlainInst → ℕ → ℕ → Option ℕ → Type 0
IsAnnouncedBefore is n x o = MatchOption o ((k : ℕ) → k < n → ¬ (Announces is k x)) (λ m. IsAnnounced is n x m)

-- The notes have the ids that an OpTypeForwardPointer before instruction n names.
pub record AreAnnounced (is : List PlainInst) (n : ℕ) (announced : Notes) : Type 0 where
  pub each : (x : ℕ) → IsAnnouncedBefore is n x (kept announced x)

-- the function in which a definition stands, if there is a definition and it is in one
pub record HasHome (is : List PlainInst) (definition : Option ℕ) (f : ℕ) : Type 0 where
  pub place : ℕ
  pub kept : definition ≡ Some place
  pub home : IsHome is place f

abbrev pub IsHomeOf : List PlainInst → Option ℕ → Option ℕ → Type 0
IsHomeOf is definition o = MatchOption o ((f : ℕ) → ¬ (HasHome is definition f)) (λ f. HasHome is definition f)

-- The function whose OpFunction is f is open before instruction n: its OpFunctionEnd is still to come.
pub record IsOpen (is : List PlainInst) (n f : ℕ) : Type 0 where
  pub below : f < n
  pub there : IsAt is f (Function ∷ [])
  pub last : (k : ℕ) → f < k → k < n → ¬ (IsAt is k (Function ∷ []))
  pub not_ended : (k : ℕ) → f ≤ k → k < n → ¬ (IsAt is k (FunctionEnd ∷ []))
