-- The list of instructions that words spell, as far as it is looked at. (Own.)
use Rattle.std.specs.Prelude.{◌≡◌, ℕ, List}
use Rattle.spv_table.specs.Table.{Table}
use Rattle.spv_module.specs.Operand.{PlainInst}
use Rattle.spv_module.specs.Instruction.{IsListing}
use Rattle.spv_extended.specs.declared.reach.Reach.{Reach}
use Rattle.spv_extended.specs.Reach.{looked_at}

-- The words are the joined spellings of a list of instructions, under the grammar table, and it is looked at so far.
-- [own]
pub record IsReading (G : Table) (reach : Reach) (is : List PlainInst) (words : List ℕ) : Type 0 where
  pub spelled : List PlainInst
  pub listing : IsListing G spelled words
  pub seen : is ≡ looked_at reach spelled
