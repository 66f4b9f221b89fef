-- What `clap` is told by the table of commands. (For the code alone.)
use Rattle.std.specs.Prelude.{◌≡◌, ◌⊎◌, ◌∷◌, List, [], Some, true}
use Rattle.std.specs.List.{fold}
use Rattle.clap.specs.Lexer.{usize_max}
use Rattle.clap.specs.Words.{App, Rule, Shape, Text, fault_of, is_simple, is_simple_and_free, new_app, new_rule}
use Rattle.clap.specs.Words.{subcommand_of, with_rule, with_subcommand}
use Rattle.clap.specs.declared.builder.action.ArgAction.TheVariants.{SetTrue}
use Rattle.spv_command_line.specs.CommandLine.{program}
use Rattle.spv_command_line.specs.declared.program.Argument.{Argument}
use Rattle.spv_command_line.specs.declared.program.Entry.{Entry}
use Rattle.spv_command_line.specs.declared.program.Form.{Form}
use Rattle.spv_command_line.specs.declared.program.Form.TheVariants as form

-- a rule with what the form of an argument adds
abbrev pub with_form : Form → Rule → Rule
with_form form.Word r = record r { value_names = 1 }
with_form form.Words r =
    record r { value_names = 1; range = Some (record { start_inclusive = 1; end_inclusive = usize_max }) }
with_form form.Option r = record r { long = Some r.id; value_names = 1 }
with_form form.Flag r = record r { long = Some r.id; action = Some SetTrue }
with_form (form.Lettered letter) r = record r { long = Some r.id; short = Some letter; action = Some SetTrue }

-- the rule for an argument
abbrev pub rule_by : Argument → Rule
rule_by row = with_form row.form (record (new_rule row.name.now) { required = row.required })

-- a command with these arguments more
abbrev pub with_argument : App → Argument → App
with_argument a row = with_rule a (rule_by row)

abbrev pub with_arguments : App → List Argument → App
with_arguments a rows = fold with_argument a rows

-- a command of the table
abbrev pub shape_by : Entry → Shape
shape_by row = (with_arguments (new_app row.name.now) row.arguments.now).top

-- a program with these commands more
abbrev pub with_command : App → Entry → App
with_command a row = with_subcommand a (shape_by row)

abbrev pub with_commands : App → List Entry → App
with_commands a rows = fold with_command a rows

-- the command is one of these
abbrev pub IsOneOf : Shape → List Shape → Type 0
IsOneOf s [] = ⊥
IsOneOf s (t ∷ ts) = (s ≡ t) ⊎ IsOneOf s ts

-- the words begin with the name of the command in this row
abbrev pub IsRowOf : Entry → List Text → Type 0
IsRowOf row [] = ⊥
IsRowOf row (word ∷ words) = (row.name.now ≡ word) × IsOneOf (shape_by row) program.subs

-- `clap` reads these words by this command line as it does by the whole
pub record ReadsAsProgram (a : App) (words : List Text) : Type 0 where
  pub simple : is_simple a ≡ true
  pub free : is_simple_and_free a ≡ true
  pub faults : fault_of a words ≡ fault_of program words
  pub found : subcommand_of a words ≡ subcommand_of program words
