-- Which bytes are a valid module. (Own.)
use Rattle.std.specs.Prelude.{ℕ, List, drop, slice_index}
use Rattle.spv_words.specs.Header.{IsModule}
use Rattle.spv_words.specs.declared.words.Order.{Order}
use Rattle.spv_table.specs.Table.{Table}
use Rattle.spv_module.specs.Operand.{PlainInst}
use Rattle.spv_extended.specs.declared.reach.Reach.{Reach}
use Rattle.spv_check.specs.Broken.{IsSound}
use Rattle.spv_check.specs.Reading.{IsReading}

-- The bytes stand, in an order, for words with a good header; from word 5 on these are the joined spellings of a list
-- of instructions, under the grammar table; and the list, as far as it is looked at, breaks no rule, under the bound
-- that word 3 is. [own]
pub record IsValid (G : Table) (reach : Reach) (bytes : List ℕ) : Type 0 where
  pub words : List ℕ
  pub order : Order
  pub is_module : IsModule order bytes words
  pub insts : List PlainInst
  pub reading : IsReading G reach insts (drop 5 words)
  pub sound : IsSound G reach (slice_index words 3) insts
