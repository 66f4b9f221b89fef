-- What `show` writes of a stream of bytes. (Own.)
use Rattle.std.specs.Prelude.{◌≡◌, ◌≤◌, ◌+◌, ◌++◌, ℕ, List, Option, Some, Bool, true, false, drop}
use Rattle.std.specs.Prelude.{length, take}
use Rattle.spv_words.specs.Header.{IsFirstBroken, IsModule}
use Rattle.spv_words.specs.declared.words.Header.{Header}
use Rattle.spv_words.specs.declared.words.Order.{Order}
use Rattle.spv_words.specs.declared.words.WordError.{WordError}
use Rattle.spv_table.specs.Table.{Table}
use Rattle.spv_extended.specs.declared.reach.Reach.{Reach}
use Rattle.spv_scope.specs.Scope.{told_text}
use Rattle.spv_module.specs.Operand.{PlainInst}
use Rattle.spv_module.specs.Instruction.{IsListing}
use Rattle.spv_inst.specs.Outcome.{IsHeaderOf}
use Rattle.spv_module.specs.Malformed.{IsMalformedAt}
use Rattle.spv_module.specs.declared.fault.Rule.{Rule}
use Rattle.spv_lines.specs.Text.{IsShownText}
use Rattle.spv_check.specs.Verdict.{fault_line, refused_line}

-- This is what is shown of all of these bytes, under the grammar table, and whether it is the text of a module. Where a
-- module is looked at as one of OpenCL, the text tells the version that is looked at.
pub data IsShowing (G : Table) (reach : Reach) (bytes : List ℕ) : List ℕ → Bool → Type 0 where
  -- they are no words of a module with a good header: the line of the first of W2 to W8 that they break
  refused : (code : WordError) → IsFirstBroken code bytes → IsShowing G reach bytes (refused_line code) false
  -- they are words of which those from word 5 on are dead at an instruction: its line
  dead : (words : List ℕ) (order : Order) (broken : Rule) (inst at : ℕ) → IsModule order bytes words
      → IsMalformedAt G (drop 5 words) broken inst at → IsShowing G reach bytes (fault_line broken inst (5 + at)) false
  -- they are words of which those from word 5 on spell a list of instructions: the text of the header and the list
  shown : (words : List ℕ) (order : Order) (header : Header) (is : List PlainInst) (text : List ℕ)
      → IsModule order bytes words
      → IsHeaderOf words header → IsListing G is (drop 5 words) → IsShownText G header is text
      → IsShowing G reach bytes (told_text reach text) true

-- A writer that held the bytes `old` now also holds what is shown of the bytes, and nothing else; the answer tells
-- whether it is the text of a module.
pub record Shows (G : Table) (reach : Reach) (bytes old : List ℕ) (new : Option (List ℕ)) (answer : Bool) : Type 0 where
  pub output : List ℕ
  pub showing : IsShowing G reach bytes output answer
  pub written : new ≡ Some (old ++ output)

-- A writer that held the bytes `old` now also holds a beginning of what is shown, and nothing else.
pub record BeginsShowing (G : Table) (reach : Reach) (bytes old : List ℕ) (new : Option (List ℕ)) : Type 0 where
  pub output : List ℕ
  pub answer : Bool
  pub showing : IsShowing G reach bytes output answer
  pub count : ℕ
  pub fits : count ≤ length output
  pub written : new ≡ Some (old ++ take count output)
