-- The words of the command line (own): what `clap` is told of them, and which command they give.
use Rattle.std.specs.Prelude.{◌≡◌, ◌≢◌, ◌≤◌, ◌⊎◌, ◌↔◌, ◌∷◌, ℕ, List, [], Bool}
use Rattle.std.specs.Prelude.{true, IsTrue, Option, Some, None, option_map, option_and_then, codes, length, map}
use Rattle.std.specs.Prelude.{count_by, Result, Ok, Err}
use Rattle.std.specs.Borrow.{Bor}
use Rattle.std.specs.List.{fold}
use Rattle.std.specs.Option.{option_or}
use Rattle.std.specs.Str.{bytes_eq}
use Rattle.clap.specs.Lexer.{usize_max}
use Rattle.clap.specs.Words.{App, IsAmong, Row, Rule, Shape, Text, all_of, fault_of, first_of, new_app, new_rule}
use Rattle.clap.specs.Words.{subcommand_of, with_rule, with_subcommand}
use Rattle.clap.specs.Simple.{on_top}
use Rattle.clap.specs.declared.builder.action.ArgAction.TheVariants.{SetTrue}
use Rattle.clap.specs.declared.error.kind.ErrorKind.{ErrorKind}
use Rattle.clap.specs.declared.error.kind.ErrorKind.TheVariants.{DisplayHelp, DisplayVersion, OutOfMemory}
use Rattle.spv_command_line.specs.declared.command_line.Color.{Color}
use Rattle.spv_command_line.specs.declared.command_line.Color.TheVariants as colors
use Rattle.spv_command_line.specs.declared.command_line.Command.{Command}
use Rattle.spv_command_line.specs.declared.command_line.Command.TheVariants.{Judge, Show, Annotate, Graph, Asm, Trace}
use Rattle.spv_command_line.specs.declared.command_line.Command.TheVariants.{Rules, Grammar}
use Rattle.spv_command_line.specs.declared.command_line.Form.{Form}
use Rattle.spv_command_line.specs.declared.command_line.Form.TheVariants as forms
use Rattle.spv_command_line.specs.declared.command_line.Naming.{Naming}
use Rattle.spv_command_line.specs.declared.command_line.Naming.TheVariants.{OfSeveral, Always, Never}
use Rattle.spv_command_line.specs.declared.command_line.Task.{Task}
use Rattle.spv_command_line.specs.declared.command_line.Task.TheVariants as tasks
use Rattle.spv_command_line.specs.declared.command_line.UseError.{UseError}
use Rattle.spv_command_line.specs.declared.command_line.UseError.TheVariants.{NoCommand, Memory, Help, Version}
use Rattle.spv_rules.specs.Errors.{any_name}
use Rattle.spv_rules.specs.Rules.{IsNamed}
use Rattle.spv_rules.specs.declared.errors.AnyCode.{AnyCode}
use Rattle.spv_command_line.specs.Number.{AreNumbersOf, IsChoiceIfAny, IsChoiceOf, IsNumberOf}
use Rattle.spv_names.specs.declared.chosen.Chosen.{Chosen}
use Rattle.spv_scope.specs.declared.scope.Scope.{Scope}
use Rattle.spv_scope.specs.declared.scope.Scope.TheVariants.{Own, Extended, OpenCl}

-- an option with a value, which may be given
abbrev pub option : Text → Rule
option name = record (new_rule name) { long = Some name; value_names = 1 }

-- an option without a value, which may be given
abbrev pub flag : Text → Rule
flag name = record (new_rule name) { long = Some name; action = Some SetTrue }

-- a word, which may be given
abbrev pub word : Text → Rule
word name = record (new_rule name) { value_names = 1 }

-- an option or a word that must be given
abbrev pub must : Rule → Rule
must rule = record rule { required = true }

-- `FILE`, and `FILE ..`, of which one at least must be given
abbrev pub file_word : Rule
file_word = must (word (codes "file"))

abbrev pub files_word : Rule
files_word = record file_word { range = Some (record { start_inclusive = 1; end_inclusive = usize_max }) }

-- `--grammar G`, `--as-1.6`, `--extended`, `--opencl`, `--json` and `--verbose`
abbrev pub grammar_option : Rule
grammar_option = option (codes "grammar")

abbrev pub as_1_6_flag : Rule
as_1_6_flag = flag (codes "as-1.6")

abbrev pub extended_flag : Rule
extended_flag = flag (codes "extended")

abbrev pub opencl_flag : Rule
opencl_flag = flag (codes "opencl")

abbrev pub json_flag : Rule
json_flag = flag (codes "json")

abbrev pub verbose_flag : Rule
verbose_flag = flag (codes "verbose")

-- `-H` or `--with-filename`
abbrev pub with_filename_flag : Rule
with_filename_flag = record (flag (codes "with-filename")) { short = Some 72 }

-- a command with these options and words
abbrev pub command : Text → List Rule → Shape
command name rules = (fold with_rule (new_app name) rules).top

-- `[--as-1.6] [--extended] [--opencl] [--with-filename] [--no-filename] [--quiet] [--json] [--verbose]`
abbrev pub judging_flags : List Rule
judging_flags =
    as_1_6_flag ∷ extended_flag ∷ opencl_flag ∷ with_filename_flag ∷ flag (codes "no-filename") ∷ flag (codes "quiet")
    ∷ json_flag ∷ verbose_flag ∷ []

-- `check [--grammar G] FILE ..` with these flags
abbrev pub check_command : Shape
check_command = command (codes "check") (grammar_option ∷ files_word ∷ judging_flags)

-- `explain [--grammar G] FILE .. [--full]` with these flags
abbrev pub explain_command : Shape
explain_command = command (codes "explain") (grammar_option ∷ files_word ∷ flag (codes "full") ∷ judging_flags)

-- `show [--grammar G] FILE [--as-1.6] [--opencl] [--verbose]`
abbrev pub show_command : Shape
show_command = command (codes "show") (grammar_option ∷ file_word ∷ as_1_6_flag ∷ opencl_flag ∷ verbose_flag ∷ [])

-- `annotate [--grammar G] FILE [--function FUNCTION] [--html] [--color WHEN] [--as-1.6] [--opencl] [--verbose]`
abbrev pub annotate_command : Shape
annotate_command = command (codes "annotate")
    (grammar_option ∷ file_word ∷ option (codes "function") ∷ flag (codes "html") ∷ option (codes "color")
    ∷ as_1_6_flag ∷ opencl_flag ∷ verbose_flag ∷ [])

-- `graph [--grammar G] FILE [--function FUNCTION] [--as-1.6] [--opencl] [--verbose]`
abbrev pub graph_command : Shape
graph_command = command (codes "graph")
    (grammar_option ∷ file_word ∷ option (codes "function") ∷ as_1_6_flag ∷ opencl_flag ∷ verbose_flag ∷ [])

-- `trace [--grammar G] FILE --function FUNCTION [--choices LIST] --limit N [--as-1.6] [--extended] [--opencl]
-- [--verbose]`
abbrev pub trace_command : Shape
trace_command = command (codes "trace")
    (grammar_option ∷ file_word ∷ must (option (codes "function")) ∷ option (codes "choices")
    ∷ must (option (codes "limit")) ∷ as_1_6_flag ∷ extended_flag ∷ opencl_flag ∷ verbose_flag ∷ [])

-- `asm [--grammar G] FILE --out OUT [--big] [--explain] [--opencl] [--verbose]`
abbrev pub asm_command : Shape
asm_command = command (codes "asm")
    (grammar_option ∷ file_word ∷ must (option (codes "out")) ∷ flag (codes "big") ∷ flag (codes "explain")
    ∷ opencl_flag ∷ verbose_flag ∷ [])

-- `rules [CODE] [--json] [--verbose]`
abbrev pub rules_command : Shape
rules_command = command (codes "rules") (word (codes "code") ∷ json_flag ∷ verbose_flag ∷ [])

-- `grammar [FILE] [--verbose]`
abbrev pub grammar_command : Shape
grammar_command = command (codes "grammar") (word (codes "file") ∷ verbose_flag ∷ [])

-- no commands yet, of which one must be given; the words begin after the program's name, and may be `--version` or
-- begin with `help`
abbrev pub bare_program : App
bare_program = on_top (λ s. record s { no_binary_name = true; subcommand_required = true; has_version = true })
    (new_app (codes "spv"))

-- all commands, of which one must be given
abbrev pub program : App
program = fold with_subcommand bare_program
    (check_command ∷ explain_command ∷ show_command ∷ annotate_command ∷ graph_command ∷ trace_command ∷ asm_command
    ∷ rules_command ∷ grammar_command ∷ [])

-- the name of the command, the path of its grammar file and its files, as `clap` reads them; without `--grammar` the
-- grammar file is that of the environment, if it has one
abbrev pub texts_in : Option Text → Option (Text × List Row) → Option (Text × Option Text × Option (List Text))
texts_in environment found =
    option_map (λ p. (p.0, option_or (first_of (codes "grammar") p.1) environment, all_of (codes "file") p.1)) found

-- the text of another of its options
abbrev pub text_in : Text → Option (Text × List Row) → Option Text
text_in name found = option_and_then (λ p. first_of name p.1) found

-- the name of the command
abbrev pub name_in : Option (Text × List Row) → Option Text
name_in found = option_map (λ p. p.0) found

-- they are the command of that name with a grammar file, or with none, and these files
abbrev pub IsAsked : Option Text → Option (Text × List Row) → Text → Option Text → List Text → Type 0
IsAsked environment found name grammar files = texts_in environment found ≡ Some (name, grammar, Some files)

-- an option without a value is given, by its text, or is not
abbrev pub IsFlag : Option Text → Bool → Type 0
IsFlag text set = IsTrue set ↔ (text ≡ Some (codes "true"))

-- the texts of `--with-filename` and `--no-filename` ask for names before these verdicts; both are not to be given
abbrev pub IsNaming : Option Text → Option Text → Naming → Type 0
IsNaming on off OfSeveral = (on ≢ Some (codes "true")) × (off ≢ Some (codes "true"))
IsNaming on off Always = (on ≡ Some (codes "true")) × (off ≢ Some (codes "true"))
IsNaming on off Never = (on ≢ Some (codes "true")) × (off ≡ Some (codes "true"))

-- The texts of `--as-1.6`, `--extended` and `--opencl` ask for this: as which version a module is read, and how far it
-- is looked at. OpenCL looks at what `--extended` does, and does not go with `--as-1.6`.
abbrev pub IsScope : Option Text → Option Text → Option Text → Scope → Type 0
IsScope newest extended opencl (Own as_1_6) =
    IsFlag newest as_1_6 × (extended ≢ Some (codes "true")) × (opencl ≢ Some (codes "true"))
IsScope newest extended opencl (Extended as_1_6) =
    IsFlag newest as_1_6 × (extended ≡ Some (codes "true")) × (opencl ≢ Some (codes "true"))
IsScope newest extended opencl OpenCl = (newest ≢ Some (codes "true")) × (opencl ≡ Some (codes "true"))

-- The same of the options that were read.
abbrev pub IsScopeOf : List Row → Scope → Type 0
IsScopeOf rows scope =
    IsScope (first_of (codes "as-1.6") rows) (first_of (codes "extended") rows) (first_of (codes "opencl") rows) scope

abbrev pub IsScopeIn : Option (Text × List Row) → Scope → Type 0
IsScopeIn None scope = ⊥
IsScopeIn (Some (name, rows)) scope = IsScopeOf rows scope

-- they are `trace` of one file, with the function and the numbers that its options are
pub record IsTrace (environment : Option Text) (found : Option (Text × List Row)) (grammar : Option Text) (file : Text)
    (function : Chosen) (choices : List ℕ) (limit : ℕ) (scope : Scope) : Type 0 where
  pub asked : IsAsked environment found (codes "trace") grammar (file ∷ [])
  pub function_is : IsChoiceOf (text_in (codes "function") found) function
  pub choices_are : AreNumbersOf (text_in (codes "choices") found) choices
  pub limit_is : IsNumberOf (text_in (codes "limit") found) limit
  pub scope_is : IsScopeIn found scope

-- the text of the word is the name of the code, in capital or small letters, or there are neither
abbrev pub IsCodeOf : Option Text → Option AnyCode → Type 0
IsCodeOf None None = Unit {0}
IsCodeOf (Some text) (Some code) = IsNamed text (any_name code)
IsCodeOf _ _ = ⊥

-- they are `rules` with the code, or with none
pub record IsRules (found : Option (Text × List Row)) (code : Option AnyCode) (json : Bool) : Type 0 where
  pub asked : name_in found ≡ Some (codes "rules")
  pub code_is : IsCodeOf (text_in (codes "code") found) code
  pub json_is : IsFlag (text_in (codes "json") found) json

-- the text of `--html` asks for this form
abbrev pub IsForm : Option Text → Form → Type 0
IsForm text forms.Text = text ≢ Some (codes "true")
IsForm text forms.Page = text ≡ Some (codes "true")

-- the word for a use of colour
abbrev pub color_word : Color → Text
color_word colors.Auto = codes "auto"
color_word colors.Always = codes "always"
color_word colors.Never = codes "never"

-- the text of `--color` is that word; without it colour is used as the output allows
abbrev pub IsColor : Option Text → Color → Type 0
IsColor None color = color ≡ colors.Auto
IsColor (Some text) color = text ≡ color_word color

-- they are `annotate` of one file, of the whole module or of that function
pub record IsAnnotate (environment : Option Text) (found : Option (Text × List Row)) (grammar : Option Text)
    (file : Text) (scope : Scope) (function : Option Chosen) (form : Form) (color : Color) : Type 0 where
  pub asked : IsAsked environment found (codes "annotate") grammar (file ∷ [])
  pub scope_is : IsScopeIn found scope
  pub function_is : IsChoiceIfAny (text_in (codes "function") found) function
  pub form_is : IsForm (text_in (codes "html") found) form
  pub color_is : IsColor (text_in (codes "color") found) color

-- they are `graph` of one file, of the calls or of that function
pub record IsGraph (environment : Option Text) (found : Option (Text × List Row)) (grammar : Option Text)
    (file : Text) (scope : Scope) (function : Option Chosen) : Type 0 where
  pub asked : IsAsked environment found (codes "graph") grammar (file ∷ [])
  pub scope_is : IsScopeIn found scope
  pub function_is : IsChoiceIfAny (text_in (codes "function") found) function

-- the command that does a task
abbrev pub task_name : Task → Text
task_name tasks.Check = codes "check"
task_name (tasks.Explain full) = codes "explain"

-- the text of `--full` asks for a task in this detail; that of `check` is always the same
abbrev pub IsDetailed : Option Text → Task → Type 0
IsDetailed text tasks.Check = Unit {0}
IsDetailed text (tasks.Explain full) = IsFlag text full

-- how often a word stands among words
abbrev pub count_of : Text → List Text → ℕ
count_of word words = count_by (λ other. bytes_eq other word) words

-- how many of these files are the standard input
abbrev pub inputs_among : List Text → ℕ
inputs_among files = count_of (codes "-") files

-- they are a task on one file or more, of which at most one is the standard input
pub record IsJudge (environment : Option Text) (found : Option (Text × List Row)) (task : Task)
    (grammar : Option Text) (files : List Text) (scope : Scope) (naming : Naming) (quiet json : Bool) : Type 0 where
  pub asked : IsAsked environment found (task_name task) grammar files
  pub detail : IsDetailed (text_in (codes "full") found) task
  pub some : 1 ≤ length files
  pub once : inputs_among files ≤ 1
  pub scope_is : IsScopeIn found scope
  pub names : IsNaming (text_in (codes "with-filename") found) (text_in (codes "no-filename") found) naming
  pub quiet_is : IsFlag (text_in (codes "quiet") found) quiet
  pub json_is : IsFlag (text_in (codes "json") found) json

-- the path of a grammar file, if one is named
abbrev pub path_of : Option (Bor Text) → Option Text
path_of grammar = option_map (λ g. g.now) grammar

-- they are a command with all of its texts; a flag that was read has the text `true`
abbrev pub IsCommand : Option Text → Option (Text × List Row) → Command → Type 0
IsCommand environment found (Judge task grammar files scope naming quiet json) =
    IsJudge environment found task (path_of grammar) (map (λ file. file.now) files.items) scope naming quiet json
IsCommand environment found (Show grammar file scope) =
    IsAsked environment found (codes "show") (path_of grammar) (file.now ∷ []) × IsScopeIn found scope
IsCommand environment found (Annotate grammar file scope function form color) =
    IsAnnotate environment found (path_of grammar) file.now scope function form color
IsCommand environment found (Graph grammar file scope function) =
    IsGraph environment found (path_of grammar) file.now scope function
IsCommand environment found (Asm grammar file out big explain opencl) =
    IsAsked environment found (codes "asm") (path_of grammar) (file.now ∷ [])
    × (text_in (codes "out") found ≡ Some out.now) × IsFlag (text_in (codes "big") found) big
    × IsFlag (text_in (codes "explain") found) explain × IsFlag (text_in (codes "opencl") found) opencl
IsCommand environment found (Trace grammar file function choices limit scope) =
    IsTrace environment found (path_of grammar) file.now function choices.items limit scope
IsCommand environment found (Rules code json) = IsRules found code json
IsCommand environment found (Grammar file) =
    (name_in found ≡ Some (codes "grammar")) × (text_in (codes "file") found ≡ path_of file)

-- no command has these texts
abbrev pub IsNoCommand : Option Text → Option (Text × List Row) → Type 0
IsNoCommand environment found = (c : Command) → ¬ (IsCommand environment found c)

-- what `clap` read is the command, or none
abbrev pub IsCommandOf : Option Text → Option (Text × List Row) → Result Command UseError → Type 0
IsCommandOf environment found (Ok c) = IsCommand environment found c
IsCommandOf environment found (Err NoCommand) = IsNoCommand environment found
IsCommandOf environment found (Err Memory) = Unit {0}
IsCommandOf environment found (Err Help) = ⊥
IsCommandOf environment found (Err Version) = ⊥

-- the code for a kind of error of `clap`
abbrev pub error_of : ErrorKind → UseError
error_of OutOfMemory = Memory
error_of DisplayHelp = Help
error_of DisplayVersion = Version
error_of _ = NoCommand

-- `clap` finds a fault in the words, or they do not give a command with all of its texts
abbrev pub IsRefused : Option Text → List Text → Type 0
IsRefused environment words =
    ((k : ErrorKind) × IsAmong k (fault_of program words) × (k ≢ DisplayHelp) × (k ≢ DisplayVersion))
    ⊎ IsNoCommand environment (subcommand_of program words)

-- what may be answered to the words, where the environment names this grammar file or none
abbrev pub Answers : Option Text → List Text → Result Command UseError → Type 0
Answers environment words (Ok c) =
    (fault_of program words ≡ []) × IsCommand environment (subcommand_of program words) c
Answers environment words (Err NoCommand) = IsRefused environment words
Answers environment words (Err Memory) = Unit {0}
Answers environment words (Err Help) = IsAmong DisplayHelp (fault_of program words)
Answers environment words (Err Version) = IsAmong DisplayVersion (fault_of program words)

-- what may be answered to the words, where it names none
abbrev pub AnswersTo : List Text → Result Command UseError → Type 0
AnswersTo words result = Answers None words result
