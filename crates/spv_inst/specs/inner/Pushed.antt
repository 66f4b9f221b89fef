-- What is added to the operands of an instruction. (For the code alone.)
use Rattle.std.specs.Prelude.{◌≡◌, ℕ, List, [], ◌∷◌, ◌++◌, map, take, drop}
use Rattle.spv_table.specs.Table.{Table}
use Rattle.spv_module.specs.declared.operand.Operand.{Operand}
use Rattle.spv_module.specs.Module.{plain_operand, plain_operands}
use Rattle.spv_module.specs.Operand.{Context}
use Rattle.spv_module.specs.Shape.{alone, shape_of}
use Rattle.spv_module.specs.Spelling.{Takes}
use Rattle.spv_inst.specs.declared.definitions.Definitions.{Definitions}
use Rattle.spv_inst.specs.inner.Known.{Knows}
use Rattle.spv_inst.specs.inner.Reading.{between}

-- One operand was added to a list: that of a kind which so many words from a place on spell, and after which the kinds
-- of its parameters are due. Those of the instruction before it stand in the list from `begin` on.
pub record IsPushed (G : Table) (known : Definitions) (image : List ℕ) (begin kind at end : ℕ) (old new : List Operand)
    (words : ℕ) (kinds : List ℕ) : Type 0 where
  pub operand : Operand
  pub added : new ≡ old ++ operand ∷ []
  pub taken : (c : Context) → Knows known c.before → plain_operands (drop begin old) ≡ c.operands
      → Takes kind (shape_of G c (alone kind)) (plain_operand operand) (take words (between image at end))
      (map alone kinds)
