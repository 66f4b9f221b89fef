use Rattle.spv_lines.proofs.HexRead.{HexSoFar}
use Rattle.spv_lines.proofs.number.read_eight.Given as goal

abbrev pub invariant-loop-octet : goal.invariant-loop-octet
invariant-loop-octet l = HexSoFar l.text l.octet-index l.word
