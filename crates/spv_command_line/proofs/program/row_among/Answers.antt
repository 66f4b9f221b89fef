use Rattle.std.proofs.Common.{arith, rules}
use Rattle.spv_command_line.proofs.OneCommand.{row_listed}
use Rattle.spv_command_line.proofs.program.row_among.Goals as goal

pub returns-then-eq : goal.returns-then-eq
returns-then-eq c =
    (search rules, row_listed c.args.rows.now c.loop-row.row-index _ (omega (arith, c.loop-row-test.true)))
