-- The result and the result type of operands, with one operand more.
use Rattle.std.proofs.Common.{◌≡◌, ◌++◌, List, [], ◌∷◌, refl}
use Rattle.std.specs.Option.{option_or}
use Rattle.spv_module.specs.Operand.{Plain, OfType, Result, Id, Word, Number, Text, Value, Mask, Argument, Mention}
use Rattle.spv_module.specs.Operand.{result_in, type_in}

pub result_snoc : (os : List Plain) (o : Plain)
    → option_or (result_in os) (result_in (o ∷ [])) ≡ result_in (os ++ (o ∷ []))
result_snoc [] o = refl
result_snoc (OfType x ∷ os) o = result_snoc os o
result_snoc (Result x ∷ os) o = refl
result_snoc (Id x ∷ os) o = result_snoc os o
result_snoc (Word x ∷ os) o = result_snoc os o
result_snoc (Argument x ∷ os) o = result_snoc os o
result_snoc (Mention x ∷ os) o = result_snoc os o
result_snoc (Number a b n ∷ os) o = result_snoc os o
result_snoc (Text t ∷ os) o = result_snoc os o
result_snoc (Value k x ∷ os) o = result_snoc os o
result_snoc (Mask k x ∷ os) o = result_snoc os o

pub type_snoc : (os : List Plain) (o : Plain) → option_or (type_in os) (type_in (o ∷ [])) ≡ type_in (os ++ (o ∷ []))
type_snoc [] o = refl
type_snoc (OfType x ∷ os) o = refl
type_snoc (Result x ∷ os) o = type_snoc os o
type_snoc (Id x ∷ os) o = type_snoc os o
type_snoc (Word x ∷ os) o = type_snoc os o
type_snoc (Argument x ∷ os) o = type_snoc os o
type_snoc (Mention x ∷ os) o = type_snoc os o
type_snoc (Number a b n ∷ os) o = type_snoc os o
type_snoc (Text t ∷ os) o = type_snoc os o
type_snoc (Value k x ∷ os) o = type_snoc os o
type_snoc (Mask k x ∷ os) o = type_snoc os o
