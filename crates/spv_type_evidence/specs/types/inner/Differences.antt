-- Where arguments differ from parameters. (For the code alone.)
use Rattle.std.specs.Prelude.{◌≡◌, ◌≢◌, ℕ, List, ◌∷◌, Option, Some, IsSomeAnd, length, slice_get}
use Rattle.spv_module.specs.Operand.{Plain, Id, PlainInst}
use Rattle.spv_module.specs.Width.{type_of}
use Rattle.spv_evidence.specs.declared.evidence.Side.{Side}
use Rattle.spv_evidence.specs.declared.evidence.Side.TheVariants as side
use Rattle.spv_type_rules.specs.Function.{signature_of, ReturnsAfter}
use Rattle.spv_type_evidence.specs.types.Function.{Differs}

-- the parameter k and the argument k are of these types, which differ
pub record AreOther (is : List PlainInst) (ps os : List Plain) (k wanted found : ℕ) : Type 0 where
  pub argument : ℕ
  pub taken : slice_get ps k ≡ Some (Id wanted)
  pub there : slice_get os k ≡ Some (Id argument)
  pub typed : type_of is argument ≡ Some found
  pub other : wanted ≢ found

-- they are of one type, if each is of one
abbrev pub AreSame : List PlainInst → List Plain → List Plain → ℕ → Type 0
AreSame is ps os k =
    (t x u : ℕ) → slice_get ps k ≡ Some (Id t) → slice_get os k ≡ Some (Id x) → type_of is x ≡ Some u
    → t ≡ u

-- The function d differs there from a call with the result type r and these arguments.
pub data CallDiffers (is : List PlainInst) (d : PlainInst) (r : ℕ) (os : List Plain)
    : Side → Option ℕ → Option ℕ → Type 0 where
  head : (s : Side) (wanted found : Option ℕ) → Differs is d r (length os) s wanted found
      → CallDiffers is d r os s wanted found
  argument : (o : Plain) (ps : List Plain) (k t u : ℕ) → signature_of is d ≡ Some (o ∷ ps)
      → AreOther is ps os k t u
      → CallDiffers is d r os (side.Argument k) (Some t) (Some u)

-- It differs nowhere.
pub record IsCallable (is : List PlainInst) (d : PlainInst) (r : ℕ) (os : List Plain) : Type 0 where
  pub head : IsSomeAnd (signature_of is d) (ReturnsAfter (Some r) (length os))
  pub arguments : (o : Plain) (ps : List Plain) (k : ℕ) → signature_of is d ≡ Some (o ∷ ps)
      → AreSame is ps os k
