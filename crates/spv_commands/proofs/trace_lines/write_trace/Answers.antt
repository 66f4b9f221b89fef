use Rattle.std.proofs.Common.{arith}
use Rattle.std.proofs.lemmas.Grind.{common_steps}
use Rattle.spv_commands.specs.Trace.{ending_line, step_line}
use Rattle.std.specs.Prelude.{flat_map}
use Rattle.spv_commands.proofs.TraceLines.{begun_last}
use Rattle.spv_commands.proofs.trace_lines.write_trace.Goals as goal

pub returns-clause-begun : goal.returns-clause-begun
returns-clause-begun g c =
    begun_last _ _ _ (flat_map step_line c.args.steps.now) (ending_line c.args.ending) c.in_ok-write_steps.ensures.all
    (rw c.ending_text.ensures at c.write_all.ensures.begun)

pub returns-in_err-write_steps-clause-begun : goal.returns-in_err-write_steps-clause-begun
returns-in_err-write_steps-clause-begun g c = grind (arith, common_steps)

pub returns-clause-all : goal.returns-clause-all
returns-clause-all g c = grind (arith, common_steps)
