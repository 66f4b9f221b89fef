-- What a command asks for, as the code has it. (For the code alone.)
use Rattle.std.specs.Prelude.{Bool, true, false}
use Rattle.spv_command_line.specs.declared.command_line.Command.{Command}
use Rattle.spv_command_line.specs.declared.command_line.Command.TheVariants.{Annotate, Judge, Asm, Rules, Grammar}
use Rattle.spv_command_line.specs.declared.command_line.Task.{Task}
use Rattle.spv_command_line.specs.declared.command_line.Task.TheVariants as tasks
use Rattle.spv_views.specs.declared.view.View.{View}
use Rattle.spv_views.specs.declared.view.View.TheVariants as views
use Rattle.spv_commands.specs.Task.{view_of}
use Rattle.spv_commands.specs.declared.asked.Reads.{Reads}
use Rattle.spv_commands.specs.declared.asked.Reads.TheVariants.{Nothing, Module, Text}

-- what a command reads of its file
abbrev pub reads_of : Command → Reads
reads_of (Asm grammar file out big explain opencl) = Text
reads_of (Rules code json) = Nothing
reads_of (Grammar file) = Nothing
reads_of _ = Module

-- does a task explain
abbrev pub explains : Task → Bool
explains tasks.Check = false
explains (tasks.Explain full) = true

-- does a command explain a verdict
abbrev pub is_explaining : Command → Bool
is_explaining (Judge task grammar files scope naming quiet json) = explains task
is_explaining _ = false

-- what a command shows people of its file
abbrev pub how_of : Command → View
how_of (Annotate grammar file scope function form color) = view_of form color file
how_of _ = views.Graph
