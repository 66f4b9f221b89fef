-- The instructions before one, as the words were read that spell them. (For the code alone.)
use Rattle.std.specs.Prelude.{◌≡◌, ◌≤◌, ◌+◌, ℕ, List, ◌++◌, length, drop}
use Rattle.spv_table.specs.Table.{Table}
use Rattle.spv_module.specs.Operand.{PlainInst}
use Rattle.spv_module.specs.Instruction.{IsListing}
use Rattle.spv_inst.specs.declared.definitions.Definitions.{Definitions}
use Rattle.spv_inst.specs.inner.Known.{Knows}

-- So many instructions are spelled from word 5 of the module up to a word, and this is what they tell of ids.
pub record IsBefore (G : Table) (words : List ℕ) (number at : ℕ) (d : Definitions) : Type 0 where
  pub insts : List PlainInst
  pub front : List ℕ
  pub all : drop 5 words ≡ front ++ drop at words
  pub place : length front + 5 ≡ at
  pub upto : at ≤ length words
  pub spelled : IsListing G insts front
  pub count : length insts ≡ number
  pub knows : Knows d insts
