-- What a run leaves in its outputs, and why it ends without a verdict (own).
use Rattle.std.specs.Prelude.{◌≡◌, ◌≤◌, ◌++◌, ℕ, List, Option, Some, IfSome, length, take}
use Rattle.std.specs.Prelude.{codes}
use Rattle.std.specs.Io.KnownBytes.{Appends}
use Rattle.spv_grammar.specs.declared.error.GrammarError.{GrammarError}
use Rattle.spv_grammar.specs.declared.error.GrammarError.TheVariants as grammar
use Rattle.spv_commands.specs.declared.trouble.Trouble.{Trouble}
use Rattle.spv_commands.specs.declared.trouble.Trouble.TheVariants as trouble
use Rattle.spv_check.specs.Verdict.{line_end}
use Rattle.spv_explain.specs.declared.answers.Unread.{Unread}
use Rattle.spv_explain.specs.declared.answers.Unread.TheVariants as unread

-- the line that tells out of memory
abbrev pub memory_line : List ℕ
memory_line = codes "error memory" ++ line_end

-- the line that tells a failed read or write, and a file that does not open
abbrev pub file_line : List ℕ
file_line = codes "error file" ++ line_end

-- the line that tells words that fit no command, and a name that several functions have
abbrev pub use_line : List ℕ
use_line = codes "error use" ++ line_end

-- the line that tells a function that is no entry point's
abbrev pub entry_line : List ℕ
entry_line = codes "error X1" ++ line_end

-- the line that tells a function that is none of the module
abbrev pub function_line : List ℕ
function_line = codes "error X2" ++ line_end

-- the line of a refused grammar file; J8 is out of memory
abbrev pub grammar_text : GrammarError → List ℕ
grammar_text grammar.J1 = codes "error J1" ++ line_end
grammar_text grammar.J2 = codes "error J2" ++ line_end
grammar_text grammar.J3 = codes "error J3" ++ line_end
grammar_text grammar.J4 = codes "error J4" ++ line_end
grammar_text grammar.J5 = codes "error J5" ++ line_end
grammar_text grammar.J6 = codes "error J6" ++ line_end
grammar_text grammar.J7 = codes "error J7" ++ line_end
grammar_text grammar.J8 = memory_line

-- the line of a trouble
abbrev pub trouble_text : Trouble → List ℕ
trouble_text trouble.Use = use_line
trouble_text trouble.File = file_line
trouble_text trouble.NotText = file_line
trouble_text trouble.Memory = memory_line
trouble_text trouble.NoEntry = entry_line
trouble_text trouble.NoFunction = function_line
trouble_text trouble.SeveralFunctions = use_line
trouble_text (trouble.Grammar e) = grammar_text e

-- what a file that was not read is told as in an object, and by a line: want of memory, or that it was not read,
-- whatever the trouble was
abbrev pub unread_of : Trouble → Unread
unread_of trouble.Memory = unread.Memory
unread_of t = unread.File

abbrev pub file_trouble : Trouble → Trouble
file_trouble trouble.Memory = trouble.Memory
file_trouble t = trouble.File

-- A writer that held the bytes `old` now also holds a beginning of the line, and nothing else.
pub record BeginsWith (line old : List ℕ) (new : Option (List ℕ)) : Type 0 where
  pub count : ℕ
  pub fits : count ≤ length line
  pub written : new ≡ Some (old ++ take count line)

-- A writer that held the bytes `old`, where they are known, now also holds the line, and nothing else. Where a write
-- failed, so that the count of its failures, `before`, became another one, it holds a beginning of the line.
pub record Writes (line : List ℕ) (old new : Option (List ℕ)) (before after : ℕ) : Type 0 where
  pub whole : after ≡ before → Appends old new line
  pub begun : IfSome old (λ xs. BeginsWith line xs new)

-- the same of a writer before and after a call
abbrev pub Gets : {T : Type 0} → (T → Option (List ℕ)) → (T → ℕ) → T → T → List ℕ → Type 0
Gets contents failures old new line = Writes line (contents old) (contents new) (failures old) (failures new)
