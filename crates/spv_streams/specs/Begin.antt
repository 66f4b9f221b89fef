-- What a writer has got of what a command writes, where a write failed: a beginning. (Own.)
use Rattle.std.specs.Prelude.{ℕ, List, Option, IfSome, Bool}
use Rattle.spv_table.specs.Table.{Table}
use Rattle.spv_extended.specs.declared.reach.Reach.{Reach}
use Rattle.spv_builtin.specs.Source.{IsTableOf}
use Rattle.spv_builtin.specs.Text.{IsGrammarText}
use Rattle.spv_command_line.specs.declared.command_line.Command.{Command}
use Rattle.spv_command_line.specs.declared.command_line.Command.TheVariants.{Judge, Show, Asm, Trace, Rules, Grammar}
use Rattle.spv_command_line.specs.declared.command_line.Command.TheVariants.{Annotate, Graph}
use Rattle.spv_command_line.specs.declared.command_line.Task.{Task}
use Rattle.spv_command_line.specs.declared.command_line.Task.TheVariants as tasks
use Rattle.spv_rules.specs.declared.errors.AnyCode.{AnyCode}
use Rattle.spv_check.specs.Stream.{Begins}
use Rattle.spv_explain.specs.Stream.{BeginsExplaining}
use Rattle.spv_views.specs.View.{BeginsViewing}
use Rattle.spv_views.specs.declared.view.View.TheVariants as views
use Rattle.spv_commands.specs.Assemble.{BeginsAssembling, order_of}
use Rattle.spv_commands.specs.Show.{BeginsShowing}
use Rattle.spv_commands.specs.Task.{AreRules, detail_of, view_of}
use Rattle.spv_scope.specs.Scope.{reach_of, taken}
use Rattle.spv_commands.specs.Trace.{BeginsTracing}
use Rattle.spv_commands.specs.Trouble.{BeginsWith}

-- The standard output that held the bytes `old`, where they are known, now also holds a beginning of what codes say.
pub record BeginsRules (code : Option AnyCode) (json : Bool) (old new : Option (List ℕ)) : Type 0 where
  pub text : List ℕ
  pub are_rules : AreRules code json text
  pub begun : IfSome old (λ xs. BeginsWith text xs new)

-- The same of what `rules` asks for.
abbrev pub BeginsRulesOf : Command → Option (List ℕ) → Option (List ℕ) → Type 0
BeginsRulesOf (Rules code json) old new = BeginsRules code json old new
BeginsRulesOf _ old new = ⊥

-- The same for the grammar file of a table.
pub record BeginsGrammar (G : Table) (old new : Option (List ℕ)) : Type 0 where
  pub text : List ℕ
  pub is_text : IsGrammarText G text
  pub begun : IfSome old (λ xs. BeginsWith text xs new)

-- The same for what a task writes of a module's bytes.
abbrev pub BeginsTask : Task → Table → Reach → List ℕ → List ℕ → Option (List ℕ) → Type 0
BeginsTask tasks.Check G reach bytes old new = Begins G reach bytes old new
BeginsTask (tasks.Explain full) G reach bytes old new = BeginsExplaining (detail_of full) G reach bytes old new

-- The same for what a command writes of the bytes of its file, and of the file that it makes, which held the bytes
-- `held`.
abbrev pub BeginsToDo : Command → Table → List ℕ → Option (List ℕ) → Option (List ℕ) → Option (List ℕ)
    → Option (List ℕ) → Type 0
BeginsToDo (Judge task grammar files scope naming quiet json) G bytes old new held kept =
    IfSome old (λ xs. BeginsTask task G (reach_of scope bytes) (taken scope bytes) xs new)
BeginsToDo (Show grammar file scope) G bytes old new held kept =
    IfSome old (λ xs. BeginsShowing G (reach_of scope bytes) (taken scope bytes) xs new)
BeginsToDo (Asm grammar file out big explain opencl) G bytes old new held kept =
    BeginsAssembling G (order_of big) explain opencl bytes old new held kept
BeginsToDo (Trace grammar file function choices limit scope) G bytes old new held kept =
    IfSome old (λ xs. BeginsTracing G (reach_of scope bytes) function choices.items limit (taken scope bytes) xs new)
BeginsToDo (Annotate grammar file scope function form color) G bytes old new held kept =
    IfSome old (λ xs. BeginsViewing (view_of form color file) G (reach_of scope bytes) function
    (taken scope bytes) xs new)
BeginsToDo (Graph grammar file scope function) G bytes old new held kept =
    IfSome old (λ xs. BeginsViewing views.Graph G (reach_of scope bytes) function (taken scope bytes) xs new)
BeginsToDo (Rules code json) G bytes old new held kept = BeginsRules code json old new
BeginsToDo (Grammar file) G bytes old new held kept = BeginsGrammar G old new

-- The same under the table of a run with a grammar file of this text, or without one.
pub record BeginsByText (command : Command) (text : Option (List ℕ)) (bytes : List ℕ)
    (old new held kept : Option (List ℕ)) : Type 0 where
  pub table : Table
  pub given : IsTableOf text table
  pub begins : BeginsToDo command table bytes old new held kept
