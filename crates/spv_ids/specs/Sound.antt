-- What holds of a use where no rule on ids is broken. [2.16]
use Rattle.std.specs.Prelude.{ℕ, List}
use Rattle.spv_module.specs.Operand.{PlainInst}
use Rattle.spv_ids.specs.Definition.{IsLocal}
use Rattle.spv_ids.specs.Order.{IsInOrder, IsInScope, IsOrdered, IsScoped}
use Rattle.spv_ids.specs.Outcome.{IsOnly}

-- A use of the id by instruction n is sound: the id has one definition, and the use comes in order and in scope where
-- its section asks for that.
pub record IsSoundUse (is : List PlainInst) (n x : ℕ) : Type 0 where
  pub definition : ℕ
  pub one : IsOnly is x definition
  pub order : IsOrdered is n → IsInOrder is n x
  pub scope : IsScoped is n → IsLocal is x → IsInScope is n x
