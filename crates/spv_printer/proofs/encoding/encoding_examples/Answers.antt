use Rattle.std.proofs.Common.{refl, arith, ◌≤◌}
use Rattle.spv_printer.proofs.Unspelled.{zero_stops, string_goes, string_long, string_short}
use Rattle.spv_printer.proofs.encoding.encoding_examples.Goals as goal

pub returns : goal.returns
returns c = record {
  header = record { version = refl; bound_least = omega arith; bound_most = omega arith; schema = refl };
  no_bound = λ f. let b : 1 ≤ 0 = f.bound_least in omega arith;
  zero_octet = zero_stops;
  spelled = string_goes;
  long = string_long;
  short = string_short;
}
