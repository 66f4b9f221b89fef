-- What is shown of bytes. (Own.)
use Rattle.std.specs.Prelude.{◌≡◌, ◌+◌, ℕ, List, Some, None, drop}
use Rattle.spv_words.specs.Header.{IsFirstBroken, IsModule}
use Rattle.spv_words.specs.declared.words.Header.{Header}
use Rattle.spv_words.specs.declared.words.Order.{Order}
use Rattle.spv_words.specs.declared.words.WordError.{WordError}
use Rattle.spv_table.specs.Table.{Table}
use Rattle.spv_module.specs.Operand.{PlainInst}
use Rattle.spv_module.specs.Instruction.{IsListing}
use Rattle.spv_module.specs.Malformed.{IsMalformedAt}
use Rattle.spv_module.specs.declared.fault.Fault.{Fault}
use Rattle.spv_inst.specs.Outcome.{IsHeaderOf}
use Rattle.spv_lines.specs.Text.{IsShownText}
use Rattle.spv_extended.specs.declared.reach.Reach.{Reach}
use Rattle.spv_words.specs.Version.{as_1_6}
use Rattle.spv_scope.specs.Scope.{reach_of, told_text}
use Rattle.spv_scope.specs.declared.scope.Scope.TheVariants.{OpenCl}
use Rattle.spv_check.specs.declared.verdict_line.Judgment.TheVariants.{Valid, Refused, Broken}
use Rattle.spvk.specs.Numbers.{numbers_of}
use Rattle.spvk.specs.declared.text.Text.{Text}

-- This is what is shown of all of these bytes, under the grammar table. Where a module is looked at as one of OpenCL,
-- the text tells the version that is looked at.
pub data IsShowing (G : Table) (reach : Reach) (bytes : List ℕ) (t : Text) : Type 0 where
  -- they are words of which those from word 5 on spell a list of instructions: the text of the header and the list
  text : (words : List ℕ) (order : Order) (header : Header) (is : List PlainInst) (lines : List ℕ)
      → IsModule order bytes words
      → IsHeaderOf words header → IsListing G is (drop 5 words) → IsShownText G header is lines
      → t.verdict ≡ numbers_of Valid → t.buffer.bytes ≡ Some (told_text reach lines)
      → IsShowing G reach bytes t
  -- they are no words of a module with a good header: the first of W2 to W8 that they break
  refused : (code : WordError) → IsFirstBroken code bytes → t.verdict ≡ numbers_of (Refused code)
      → t.buffer.bytes ≡ None → IsShowing G reach bytes t
  -- they are words of which those from word 5 on are dead at an instruction
  dead : (words : List ℕ) (order : Order) (f : Fault) (at : ℕ) → IsModule order bytes words
      → IsMalformedAt G (drop 5 words) f.rule f.inst at
      → f.word ≡ 5 + at → t.verdict ≡ numbers_of (Broken f) → t.buffer.bytes ≡ None → IsShowing G reach bytes t

-- This is what is shown of a module of OpenCL, of version 1.0 to 1.6: it is read as one of 1.6, and the text tells the
-- version that the bytes tell.
pub record IsShowingForOpenCl (G : Table) (bytes : List ℕ) (t : Text) : Type 0 where
  pub showing : IsShowing G (reach_of OpenCl bytes) (as_1_6 bytes) t
