-- What is added to a text of the words of an image. (For the code alone.)
use Rattle.std.specs.Prelude.{◌≡◌, ◌<◌, ◌≤◌, ◌++◌, ◌∷◌, [], ℕ, List, drop, length}
use Rattle.spv_table.specs.Table.{Table}
use Rattle.spv_inst.specs.declared.definitions.Definitions.{Definitions}
use Rattle.spv_module.specs.Operand.{PlainInst}
use Rattle.spv_module.specs.Instruction.{IsInstruction, IsListing}
use Rattle.spv_inst.specs.inner.Known.{Knows}
use Rattle.spv_inst.specs.inner.Reading.{between}
use Rattle.spv_lines.specs.Line.{IsShownLine}
use Rattle.spv_lines.specs.Text.{ShownLines, ended}

-- The words from word 5 on are those of a list of instructions, whose lines were added to a text.
pub record AreAdded (G : Table) (words old new : List ℕ) : Type 0 where
  pub insts : List PlainInst
  pub lines : List (List ℕ)
  pub listed : IsListing G insts (drop 5 words)
  pub shown : ShownLines G [] insts lines
  pub text : new ≡ old ++ ended lines

-- After the instructions before, the words from one place up to another are those of an instruction, whose line was
-- added to a text, and of which is kept what is to be kept.
pub record IsNext (G : Table) (words : List ℕ) (before : List PlainInst) (old new : List ℕ) (defined : Definitions)
    (at end : ℕ) : Type 0 where
  pub inst : PlainInst
  pub further : List ℕ
  pub line : List ℕ
  pub some : at < end
  pub within : end ≤ length words
  pub read : IsInstruction G before inst (between words at end)
  pub shown : IsShownLine G before inst further line
  pub text : new ≡ old ++ (line ++ (10 ∷ []))
  pub knows : Knows defined (before ++ (inst ∷ []))
