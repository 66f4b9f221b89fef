-- What OpCopyLogical asks. (For the code alone.)
use Rattle.std.specs.Prelude.{◌≡◌, ℕ, List, [], ◌∷◌, Option, Some}
use Rattle.spv_module.specs.Operand.{PlainInst}
use Rattle.spv_conditions.specs.Condition.{Agrees}
use Rattle.spv_type_kinds.specs.declared.kinds.Relation.TheVariants as relation

-- There is a result type, and one value, whose type is another that it matches.
pub record IsCopy (is : List PlainInst) (r : Option ℕ) (types : Option (List ℕ)) : Type 0 where
  pub to : ℕ
  pub from : ℕ
  pub result : r ≡ Some to
  pub value : types ≡ Some (from ∷ [])
  pub match : Agrees is relation.Matches from to
