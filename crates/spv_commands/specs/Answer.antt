-- What a command answers of the bytes of its files: the exit status, and what the standard output, the file that is
-- made and the standard error get. (Own.)
use Rattle.std.specs.Prelude.{◌≡◌, ◌==◌, ◌≤◌, ℕ, List, [], Option, Some, None}
use Rattle.spv_table.specs.Table.{Table}
use Rattle.spv_builtin.specs.Source.{IsTableOf, breaks}
use Rattle.spv_grammar.specs.declared.error.GrammarError.{GrammarError}
use Rattle.spv_command_line.specs.declared.command_line.Command.{Command}
use Rattle.spv_commands.specs.Task.{DoesByText, IsAmbiguousByText, IsNoText, LacksAskedByText, LacksEntryByText}
use Rattle.spv_commands.specs.Task.{MakesNothing, ReadsGrammar, WritesRulesOf}
use Rattle.spv_commands.specs.Trouble.{entry_line, file_line, function_line, grammar_text, memory_line, use_line}

-- Why a command ends with an error, and the line that tells it, with a grammar file of this text or without one. FILE
-- has these bytes, or none where it could not be read. No clause can tell when memory is refused, so the last stands
-- for itself.
pub data IsRefusal (command : Command) (text file : Option (List ℕ)) : List ℕ → Type 0 where
  grammar : (e : GrammarError) → ReadsGrammar command → breaks text e
      → IsRefusal command text file (grammar_text e)
  unread : (G : Table) → IsTableOf text G → file ≡ None → IsRefusal command text file file_line
  no_text : (G : Table) (bytes : List ℕ) → IsTableOf text G → file ≡ Some bytes → IsNoText command (Some bytes)
      → IsRefusal command text file file_line
  no_entry : (bytes : List ℕ) → file ≡ Some bytes → LacksEntryByText command text (Some bytes)
      → IsRefusal command text file entry_line
  no_function : (bytes : List ℕ) → file ≡ Some bytes → LacksAskedByText command text (Some bytes)
      → IsRefusal command text file function_line
  several : (bytes : List ℕ) → file ≡ Some bytes → IsAmbiguousByText command text (Some bytes)
      → IsRefusal command text file use_line
  memory : IsRefusal command text file memory_line

-- This is what the standard output, the file that is made and the standard error get, and the exit status.
pub data Answers (command : Command) (text file : Option (List ℕ)) (out made err : List ℕ) (status : ℕ) : Type 0 where
  -- what the command writes of all the bytes of FILE, by the table of the grammar file or the built-in one: 0 goes with
  -- `valid` alone, with the text of a module, with a module, a run, what people look at or a grammar file
  done : (bytes : List ℕ) → file ≡ Some bytes
      → DoesByText command text bytes (Some []) (Some out) (Some []) (Some made) (status == 0)
      → (MakesNothing command → made ≡ []) → err ≡ [] → status ≤ 1
      → Answers command text file out made err status
  -- what codes say
  told : WritesRulesOf command (Some []) (Some out) → made ≡ [] → err ≡ [] → status ≡ 0
      → Answers command text file out made err status
  -- an error, and nothing else
  refused : IsRefusal command text file err → out ≡ [] → made ≡ [] → status ≡ 2
      → Answers command text file out made err status
