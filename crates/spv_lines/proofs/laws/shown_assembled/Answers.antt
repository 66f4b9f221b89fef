use Rattle.spv_lines.proofs.Assembled.{shown_assembles, shown_fails_not}
use Rattle.spv_lines.proofs.laws.shown_assembled.Goals as goal

pub returns-clause-only : goal.returns-clause-only
returns-clause-only c = shown_assembles

pub returns-clause-never : goal.returns-clause-never
returns-clause-never c = shown_fails_not
