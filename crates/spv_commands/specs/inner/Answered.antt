-- What a command answers by a table. (For the code alone.)
use Rattle.std.specs.Prelude.{◌≡◌, ◌⊎◌, ℕ, List, [], Option, Some, Bool, true}
use Rattle.spv_table.specs.Table.{Table}
use Rattle.spv_command_line.specs.declared.command_line.Command.{Command}
use Rattle.spv_commands.specs.Output.{is_done, made_of, out_of}
use Rattle.spv_commands.specs.Task.{Does, IsAmbiguous, IsNoText, LacksAsked, LacksEntry, MakesNothing}
use Rattle.spv_commands.specs.declared.replying.Reply.{Reply}
use Rattle.spv_commands.specs.declared.trouble.Trouble.{Trouble}
use Rattle.spv_commands.specs.declared.trouble.Trouble.TheVariants.{Memory, NoEntry, NoFunction, NotText}
use Rattle.spv_commands.specs.declared.trouble.Trouble.TheVariants.{SeveralFunctions}

-- a writer that held nothing gets what is written of the bytes, and no file is made
abbrev pub Gives : (List ℕ → List ℕ → Option (List ℕ) → Bool → Type 0) → List ℕ → Reply → Type 0
Gives Whole bytes a = Whole bytes [] (Some (out_of a)) (is_done a) × (made_of a ≡ [])

-- the same of what is written of no bytes
abbrev pub IsUnreadAnswer : (Option (List ℕ) → Option (List ℕ) → Type 0) → Reply → Type 0
IsUnreadAnswer Whole a = Whole (Some []) (Some (out_of a)) × (is_done a ≡ true) × (made_of a ≡ [])

-- it is what the command does by the table with the bytes
abbrev pub IsAnswerBy : Command → Table → List ℕ → Reply → Type 0
IsAnswerBy command G bytes a =
    Does command G bytes (Some []) (Some (out_of a)) (Some []) (Some (made_of a)) (is_done a)
    × (MakesNothing command → made_of a ≡ [])

-- why it does nothing
abbrev pub WhyNot : Command → Table → List ℕ → Trouble → Type 0
WhyNot command G bytes t = ((t ≡ NotText) × IsNoText command (Some bytes))
    ⊎ ((t ≡ NoEntry) × LacksEntry command G (Some bytes)) ⊎ ((t ≡ NoFunction) × LacksAsked command G (Some bytes))
    ⊎ ((t ≡ SeveralFunctions) × IsAmbiguous command G (Some bytes)) ⊎ (t ≡ Memory)
