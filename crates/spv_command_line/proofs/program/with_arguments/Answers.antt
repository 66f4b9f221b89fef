use Rattle.std.proofs.Common.{arith}
use Rattle.spv_command_line.proofs.Table.{argument_next}
use Rattle.spv_command_line.proofs.program.with_arguments.Goals as goal

pub loop-row-preserved : goal.loop-row-preserved
loop-row-preserved c =
    argument_next c.args.rows.now c.loop-row.row-index _ _ c.loop-row.command c.in_ok-command.command c.argument_of.result (omega (arith, c.loop-row-test.true))
    c.argument_of.ensures.rule c.argument_of.ensures.local c.in_ok-command.ensures c.loop-row.invariant
