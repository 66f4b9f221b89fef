use Rattle.std.proofs.Common.{arith}
use Rattle.spv_command_line.proofs.Table.{command_next}
use Rattle.spv_command_line.proofs.program.with_commands.Goals as goal

pub loop-row-preserved : goal.loop-row-preserved
loop-row-preserved c =
    command_next c.args.rows.now c.loop-row.row-index _ _ c.loop-row.program c.in_ok-command_of.field-0 c.in_ok-program.program (omega (arith, c.loop-row-test.true))
    c.in_ok-command_of.ensures.shape c.in_ok-command_of.ensures.local c.in_ok-program.ensures c.loop-row.invariant
