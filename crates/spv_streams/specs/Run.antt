-- How a run of a command ends. (Own.)
use Rattle.std.specs.Prelude.{◌≡◌, ◌≢◌, ◌≤◌, ◌⊎◌, ◌==◌, ℕ, List, Option, IfSome}
use Rattle.spv_command_line.specs.declared.command_line.Command.{Command}
use Rattle.spv_commands.specs.Streams.{AnyFailed, Reading, Writing}
use Rattle.spv_builtin.specs.Source.{breaks}
use Rattle.spv_grammar.specs.declared.error.GrammarError.{GrammarError}
use Rattle.spv_commands.specs.Task.{DoesByText, IsAmbiguousByText, IsNoText, LacksAskedByText, LacksEntryByText}
use Rattle.spv_commands.specs.Task.{WritesRulesOf}
use Rattle.spv_commands.specs.Trouble.{entry_line, file_line, function_line, grammar_text, memory_line, use_line}
use Rattle.spv_streams.specs.Begin.{BeginsByText, BeginsRulesOf}

-- The error line of a run whose grammar file has this text, or which has none, for a reason: the grammar breaks a code,
-- a read or a write `failed`, a function is `strange` or `absent`, its name `ambiguous`, or memory was refused. No
-- clause can tell when memory is refused, so the last stands for itself.
pub data IsErrorLine (text : Option (List ℕ)) (failed strange absent ambiguous : Type 0) : List ℕ → Type 0 where
  refused : (e : GrammarError) → breaks text e → IsErrorLine text failed strange absent ambiguous (grammar_text e)
  file : failed → IsErrorLine text failed strange absent ambiguous file_line
  entry : strange → IsErrorLine text failed strange absent ambiguous entry_line
  function : absent → IsErrorLine text failed strange absent ambiguous function_line
  several : ambiguous → IsErrorLine text failed strange absent ambiguous use_line
  memory : IsErrorLine text failed strange absent ambiguous memory_line

-- Of a command that needs a table, with a grammar file of this text or without one. `Tells` says that the standard
-- error has got a line.
pub record Runs (command : Command) (text : Option (List ℕ)) (file : Reading) (out made : Writing)
    (Tells : List ℕ → Type 0) (status : ℕ) : Type 0 where
  -- With 0 and 1 the verdict line, with or without lines that explain it, the text, the module, the run, what people
  -- look at or the grammar file was written, by the table of the grammar file or the built-in one: 0 goes with `valid`
  -- alone, with the text of a module, with the module of a text, with a run, with what people look at or with a grammar
  -- file.
  pub done : status ≤ 1
      → IfSome file.left (λ bytes. DoesByText command text bytes out.held out.holds made.held made.holds (status == 0))
  -- With 2 an error line was written to the standard error, and there is a reason for it.
  pub error : status ≡ 2 → (line : List ℕ) × IsErrorLine text (AnyFailed file out made ⊎ IsNoText command file.left)
      (LacksEntryByText command text file.left) (LacksAskedByText command text file.left)
      (IsAmbiguousByText command text file.left) line × Tells line
  -- A failed read or write is told by `error file`.
  pub failed : AnyFailed file out made → (status ≡ 2) × Tells file_line
  -- With 2 the standard output and the file that is made are as they were, or, after a failed write, have got a
  -- beginning.
  pub unwritten : status ≡ 2 → out.untouched
  pub unmade : status ≡ 2 → made.untouched
  pub begun : out.failed ⊎ made.failed
      → IfSome file.left (λ bytes. BeginsByText command text bytes out.held out.holds made.held made.holds)

-- Of `rules`, which reads nothing. With 0 what codes say was written; with 2 out of memory is told, or a failed write,
-- which leaves a beginning.
pub record RunsRules (command : Command) (out : Writing) (Tells : List ℕ → Type 0) (status : ℕ) : Type 0 where
  pub never : status ≢ 1
  pub done : status ≡ 0 → WritesRulesOf command out.held out.holds
  pub error : status ≡ 2 → (out.failed × Tells file_line) ⊎ Tells memory_line
  pub failed : out.failed → (status ≡ 2) × Tells file_line
  pub unwritten : status ≡ 2 → out.untouched
  pub begun : out.failed → BeginsRulesOf command out.held out.holds
