-- What a command does, by the text of its grammar file, or by the built-in grammar (own).
use Rattle.std.specs.Prelude.{◌≡◌, ℕ, List, Option, Bool, true, false, IfSome, IsUtf8}
use Rattle.std.specs.Borrow.{Bor}
use Rattle.std.specs.Io.KnownBytes.{Appends}
use Rattle.spv_table.specs.Table.{Table}
use Rattle.spv_extended.specs.declared.reach.Reach.{Reach}
use Rattle.spv_builtin.specs.Source.{IsTableOf}
use Rattle.spv_builtin.specs.Text.{IsGrammarText}
use Rattle.spv_command_line.specs.declared.command_line.Command.{Command}
use Rattle.spv_command_line.specs.declared.command_line.Command.TheVariants.{Judge, Show, Asm, Trace, Rules, Grammar}
use Rattle.spv_command_line.specs.declared.command_line.Command.TheVariants.{Annotate, Graph}
use Rattle.spv_command_line.specs.declared.command_line.Color.{Color}
use Rattle.spv_command_line.specs.declared.command_line.Color.TheVariants.{Always}
use Rattle.spv_command_line.specs.declared.command_line.Form.{Form}
use Rattle.spv_command_line.specs.declared.command_line.Form.TheVariants as forms
use Rattle.spv_command_line.specs.declared.command_line.Task.{Task}
use Rattle.spv_command_line.specs.declared.command_line.Task.TheVariants as tasks
use Rattle.spv_commands.specs.Assemble.{Assembles, order_of, text_read}
use Rattle.spv_commands.specs.Show.{Shows}
use Rattle.spv_commands.specs.Trace.{HasNoEntry, HasSeveral, Traces}
use Rattle.spv_scope.specs.Scope.{reach_of, taken}
use Rattle.spv_check.specs.Stream.{TellsVerdict}
use Rattle.spv_rules.specs.Codes.{told_text}
use Rattle.spv_rules.specs.declared.errors.AnyCode.{AnyCode}
use Rattle.spv_explain.specs.Json.{told_json}
use Rattle.spv_explain.specs.Stream.{Explains}
use Rattle.spv_facts.specs.declared.fact.Detail.{Detail}
use Rattle.spv_facts.specs.declared.fact.Detail.TheVariants.{Short, Full}
use Rattle.spv_views.specs.View.{LacksFunction, NamesSeveral, Views}
use Rattle.spv_views.specs.declared.view.View.{View}
use Rattle.spv_views.specs.declared.view.View.TheVariants as views

-- the command needs a table
abbrev pub ReadsGrammar : Command → Type 0
ReadsGrammar (Rules code json) = ⊥
ReadsGrammar _ = Unit {0}

-- the command reads no module and no text
abbrev pub ReadsNoFile : Command → Type 0
ReadsNoFile (Rules code json) = Unit {0}
ReadsNoFile (Grammar file) = Unit {0}
ReadsNoFile _ = ⊥

-- The text is what codes say, of all or of one: as lines, or as an object of JSON for each.
abbrev pub AreRules : Option AnyCode → Bool → List ℕ → Type 0
AreRules code false text = text ≡ told_text code
AreRules code true text = text ≡ told_json code

-- The standard output that held the bytes `old`, where they are known, now also holds such a text, and nothing else.
pub record WritesRules (code : Option AnyCode) (json : Bool) (old new : Option (List ℕ)) : Type 0 where
  pub text : List ℕ
  pub are_rules : AreRules code json text
  pub written : Appends old new text

-- The same of what `rules` asks for.
abbrev pub WritesRulesOf : Command → Option (List ℕ) → Option (List ℕ) → Type 0
WritesRulesOf (Rules code json) old new = WritesRules code json old new
WritesRulesOf _ old new = ⊥

-- The same for the grammar file of a table.
pub record WritesGrammar (G : Table) (old new : Option (List ℕ)) : Type 0 where
  pub text : List ℕ
  pub is_text : IsGrammarText G text
  pub written : Appends old new text

-- how much an explanation tells
abbrev pub detail_of : Bool → Detail
detail_of true = Full
detail_of false = Short

-- A writer that held the bytes `old` now also holds what a task writes of a module's bytes, and nothing else: the
-- verdict line, or that line and those that explain it. The answer tells whether the line is `valid`.
abbrev pub DoesTask : Task → Table → Reach → List ℕ → List ℕ → Option (List ℕ) → Bool → Type 0
DoesTask tasks.Check G reach bytes old new answer = TellsVerdict G reach bytes old new answer
DoesTask (tasks.Explain full) G reach bytes old new answer = Explains (detail_of full) G reach bytes old new answer

-- a text has colour where that is asked for in any case; whether a terminal asks for it is settled before
abbrev pub is_colored : Color → Bool
is_colored Always = true
is_colored _ = false

-- what `annotate` writes: the text, or the page under the name of the file
abbrev pub view_of : Form → Color → Bor (List ℕ) → View
view_of forms.Text color file = views.Text (is_colored color)
view_of forms.Page color file = views.Page file

-- The standard output that held the bytes `old`, where they are known, now also holds what the command writes of the
-- bytes of its file, and nothing else: a task what it writes of this one of its files, `show` the text or the line of a
-- fault, `asm` the line of a fault or nothing, `trace` the run or the verdict line, `annotate` and `graph` what people
-- look at or the verdict line, `rules` what codes say, of no table and no file, `grammar` the grammar file of the
-- table. Of a module it reads the bytes as it takes them, and looks at them as far as is asked for. The file that `asm`
-- makes held the bytes `held`, where they are known, and now also holds the module. The answer tells whether the line
-- is `valid`, or the text, the module or the run was written.
abbrev pub Does : Command → Table → List ℕ → Option (List ℕ) → Option (List ℕ) → Option (List ℕ)
    → Option (List ℕ) → Bool → Type 0
Does (Judge task grammar files scope naming quiet json) G bytes old new held kept answer =
    IfSome old (λ xs. DoesTask task G (reach_of scope bytes) (taken scope bytes) xs new answer)
Does (Show grammar file scope) G bytes old new held kept answer =
    IfSome old (λ xs. Shows G (reach_of scope bytes) (taken scope bytes) xs new answer)
Does (Asm grammar file out big explain opencl) G bytes old new held kept answer =
    Assembles G (order_of big) explain opencl bytes old new held kept answer
Does (Trace grammar file function choices limit scope) G bytes old new held kept answer =
    IfSome old (λ xs. Traces G (reach_of scope bytes) function choices.items limit (taken scope bytes) xs new answer)
Does (Annotate grammar file scope function form color) G bytes old new held kept answer =
    IfSome old (λ xs. Views (view_of form color file) G (reach_of scope bytes) function
    (taken scope bytes) xs new answer)
Does (Graph grammar file scope function) G bytes old new held kept answer =
    IfSome old (λ xs. Views views.Graph G (reach_of scope bytes) function (taken scope bytes) xs new answer)
Does (Rules code json) G bytes old new held kept answer = WritesRules code json old new × (answer ≡ true)
Does (Grammar file) G bytes old new held kept answer = WritesGrammar G old new × (answer ≡ true)

-- The same under the table of a run with a grammar file of this text, or without one.
pub record DoesByText (command : Command) (text : Option (List ℕ)) (bytes : List ℕ)
    (old new held kept : Option (List ℕ)) (answer : Bool) : Type 0 where
  pub table : Table
  pub given : IsTableOf text table
  pub does : Does command table bytes old new held kept answer

-- the command makes no file
abbrev pub MakesNothing : Command → Type 0
MakesNothing (Asm grammar file out big explain opencl) = ⊥
MakesNothing _ = Unit {0}

-- the command reads a text, and the bytes of its file, if they are known, are none as it reads them
abbrev pub IsNoText : Command → Option (List ℕ) → Type 0
IsNoText (Asm grammar file out big explain opencl) known = IfSome known (λ bytes. ¬ (IsUtf8 (text_read opencl bytes)))
IsNoText _ known = ⊥

-- the command asks for a run, and the bytes of its file, if they are known, are a valid module in which the function
-- is no entry point's
abbrev pub LacksEntry : Command → Table → Option (List ℕ) → Type 0
LacksEntry (Trace grammar file function choices limit scope) G known =
    IfSome known (λ bytes. HasNoEntry G (reach_of scope bytes) (taken scope bytes) function)
LacksEntry _ G known = ⊥

-- the same under the table of a run
pub record LacksEntryByText (command : Command) (text : Option (List ℕ)) (known : Option (List ℕ)) : Type 0 where
  pub table : Table
  pub given : IsTableOf text table
  pub lacks : LacksEntry command table known

-- the command asks for a function, and the bytes of its file, if they are known, are a module in which functions can be
-- told apart, and which has no such one
abbrev pub LacksAsked : Command → Table → Option (List ℕ) → Type 0
LacksAsked (Annotate grammar file scope function form color) G known =
    IfSome known (λ bytes. LacksFunction G (reach_of scope bytes) (taken scope bytes) function)
LacksAsked (Graph grammar file scope function) G known =
    IfSome known (λ bytes. LacksFunction G (reach_of scope bytes) (taken scope bytes) function)
LacksAsked _ G known = ⊥

-- the same under the table of a run
pub record LacksAskedByText (command : Command) (text : Option (List ℕ)) (known : Option (List ℕ)) : Type 0 where
  pub table : Table
  pub given : IsTableOf text table
  pub lacks : LacksAsked command table known

-- the command asks for a function by a name that several have, and the bytes of its file, if they are known, are a
-- module in which they do
abbrev pub IsAmbiguous : Command → Table → Option (List ℕ) → Type 0
IsAmbiguous (Trace grammar file function choices limit scope) G known =
    IfSome known (λ bytes. HasSeveral G (reach_of scope bytes) (taken scope bytes) function)
IsAmbiguous (Annotate grammar file scope function form color) G known =
    IfSome known (λ bytes. NamesSeveral G (reach_of scope bytes) (taken scope bytes) function)
IsAmbiguous (Graph grammar file scope function) G known =
    IfSome known (λ bytes. NamesSeveral G (reach_of scope bytes) (taken scope bytes) function)
IsAmbiguous _ G known = ⊥

-- the same under the table of a run
pub record IsAmbiguousByText (command : Command) (text : Option (List ℕ)) (known : Option (List ℕ)) : Type 0 where
  pub table : Table
  pub given : IsTableOf text table
  pub ambiguous : IsAmbiguous command table known
