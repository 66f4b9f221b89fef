use Rattle.std.proofs.Common.{◌≡◌, take}
use Rattle.spv_lines.specs.Operand.{escaped}
use Rattle.spv_printer.proofs.fast_text.are_plain.Given as goal

abbrev pub invariant-loop-octet : goal.invariant-loop-octet
invariant-loop-octet l = escaped (take l.octet-index l.octets) ≡ take l.octet-index l.octets
