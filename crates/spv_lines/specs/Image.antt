-- What is shown of the words of an image. [own]
use Rattle.std.specs.Prelude.{[], ℕ, List, drop}
use Rattle.spv_words.specs.declared.words.Header.{Header}
use Rattle.spv_table.specs.Table.{Table}
use Rattle.spv_module.specs.Operand.{PlainInst}
use Rattle.spv_module.specs.Instruction.{IsListing}
use Rattle.spv_inst.specs.Outcome.{IsHeaderOf}
use Rattle.spv_lines.specs.Text.{IsShownText}

-- The words are those of a header and, from word 5 on, of a list of instructions; the text is the shown one of these.
-- [own]
pub record IsShownImage (G : Table) (words text : List ℕ) : Type 0 where
  pub header : Header
  pub insts : List PlainInst
  pub told : IsHeaderOf words header
  pub listed : IsListing G insts (drop 5 words)
  pub shown : IsShownText G header insts text
