use Rattle.std.proofs.Common.{◌≡◌, false, drop}
use Rattle.clap.specs.Words.{app_of}
use Rattle.clap.specs.declared.builder.command.Command.TheViews.{out-Command}
use Rattle.spv_command_line.specs.inner.Program.{with_arguments}
use Rattle.spv_command_line.proofs.program.with_arguments.Given as goal

abbrev pub invariant-loop-row : goal.invariant-loop-row
invariant-loop-row l =
    (with_arguments (app_of l.command) (drop l.row-index l.rows) ≡ with_arguments (app_of l.initial.command) l.rows) × ((out-Command l.command).has_globals ≡ false)
