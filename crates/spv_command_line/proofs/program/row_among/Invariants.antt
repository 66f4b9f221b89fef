use Rattle.spv_command_line.proofs.program.row_among.Given as goal

abbrev pub invariant-loop-row : goal.invariant-loop-row
invariant-loop-row l = Unit {0}
