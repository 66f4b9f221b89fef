-- How a command ends before its trouble is told. (For the code alone.)
use Rattle.std.specs.Prelude.{◌≡◌, ◌⊎◌, ◌↔◌, List, ℕ, Bool, true, Option, Result, IfOk, IfErr, IsErr, IsErrOf}
use Rattle.spv_table.specs.Table.{Table}
use Rattle.spv_command_line.specs.declared.command_line.Command.{Command}
use Rattle.spv_commands.specs.Streams.{AnyFailed, IsDone, Reading, Writing}
use Rattle.spv_commands.specs.Task.{Does, DoesByText, IsAmbiguous, IsAmbiguousByText, IsNoText, LacksEntry}
use Rattle.spv_commands.specs.Task.{LacksAsked, LacksAskedByText, LacksEntryByText}
use Rattle.spv_commands.specs.Trouble.{trouble_text}
use Rattle.spv_streams.specs.Begin.{BeginsByText, BeginsToDo}
use Rattle.spv_streams.specs.Run.{IsErrorLine}
use Rattle.spv_commands.specs.declared.trouble.Trouble.{Trouble}
use Rattle.spv_commands.specs.declared.trouble.Trouble.TheVariants.{File, Memory, NoEntry, NoFunction, NotText}
use Rattle.spv_commands.specs.declared.trouble.Trouble.TheVariants.{SeveralFunctions}

-- why a command does nothing by a table, of a file that has these bytes, if they are known
abbrev pub IsReason : Command → Table → Option (List ℕ) → Trouble → Type 0
IsReason command G left t = (t ≡ File) ⊎ ((t ≡ NotText) × IsNoText command left)
    ⊎ ((t ≡ NoEntry) × LacksEntry command G left) ⊎ ((t ≡ NoFunction) × LacksAsked command G left)
    ⊎ ((t ≡ SeveralFunctions) × IsAmbiguous command G left) ⊎ (t ≡ Memory)

-- By a table.
pub record EndsByTable (command : Command) (G : Table) (file : Reading) (out made : Writing)
    (result : Result Bool Trouble) : Type 0 where
  pub ends : IsDone (Does command G) (BeginsToDo command G) File file out made result
  pub only : IfErr result (IsReason command G file.left)

-- By the text of a grammar file, or without one.
pub record EndsByText (command : Command) (text : Option (List ℕ)) (file : Reading) (out made : Writing)
    (result : Result Bool Trouble) : Type 0 where
  pub ends : IsDone (DoesByText command text) (BeginsByText command text) File file out made result
  pub reason : IfErr result (λ t. IsErrorLine text (AnyFailed file out made ⊎ IsNoText command file.left)
      (LacksEntryByText command text file.left) (LacksAskedByText command text file.left)
      (IsAmbiguousByText command text file.left) (trouble_text t))

-- With what is written of no file: `Whole` says of the standard output what it held and what it then holds, and `Begun`
-- the same where a write failed.
pub record EndsUnread (Whole Begun : Option (List ℕ) → Option (List ℕ) → Type 0) (out : Writing)
    (result : Result Bool Trouble) : Type 0 where
  pub whole : IfOk result (λ answer. Whole out.held out.holds × (answer ≡ true))
  pub count : out.failed ↔ IsErrOf result File
  pub only : IfErr result (λ t. (t ≡ File) ⊎ (t ≡ Memory))
  pub unwritten : IsErr result → out.untouched
  pub begun : out.failed → Begun out.held out.holds
