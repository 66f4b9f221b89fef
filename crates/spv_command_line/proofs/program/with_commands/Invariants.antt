use Rattle.std.proofs.Common.{◌≡◌, drop}
use Rattle.clap.specs.Words.{app_of}
use Rattle.spv_command_line.specs.inner.Program.{with_commands}
use Rattle.spv_command_line.proofs.program.with_commands.Given as goal

abbrev pub invariant-loop-row : goal.invariant-loop-row
invariant-loop-row l = with_commands (app_of l.program) (drop l.row-index l.rows) ≡ with_commands (app_of l.initial.program) l.rows
