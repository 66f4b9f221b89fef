use Rattle.std.proofs.Common.{◌≡◌, ◌<◌, ◌^◌, drop}
use Rattle.spv_grammar.specs.File.{hex_from}
use Rattle.spv_grammar.proofs.read.hex_number.Given as goal

abbrev pub invariant-loop-digit : goal.invariant-loop-digit
invariant-loop-digit l = record {
  fits : l.number < 16 ^ l.digit-index;
  rest : hex_from 0 l.digits ≡ hex_from l.number (drop l.digit-index l.digits);
}
