use Rattle.std.proofs.Common.{drop}
use Rattle.spv_command_line.proofs.Numerals.{NumberSoFar}
use Rattle.spv_command_line.proofs.number.number_in.Given as goal

abbrev pub invariant-loop-octet : goal.invariant-loop-octet
invariant-loop-octet l = NumberSoFar l.text (drop l.octet-index l.text) l.number
