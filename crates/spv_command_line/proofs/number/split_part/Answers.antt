use Rattle.std.proofs.Common.{◌+◌}
use Rattle.spv_command_line.proofs.Numerals.{one_part, parts_at, rest_lent}
use Rattle.spv_command_line.proofs.number.split_part.Goals as goal

pub returns-in-Some-clause-parts : goal.returns-in-Some-clause-parts
returns-in-Some-clause-parts c = rw (rest_lent c.args.text.now (c.in-Some.at + 1)) (parts_at c.args.text.now c.in-Some.at c.in-Some.ensures)

pub returns-in-None-clause-parts : goal.returns-in-None-clause-parts
returns-in-None-clause-parts c = one_part c.args.text.now c.in-None.ensures
