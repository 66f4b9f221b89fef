use Rattle.std.proofs.Common.{refl}
use Rattle.spv_lines.specs.Digits.{hex_digits}
use Rattle.spv_annotate.specs.Values.{raised}
use Rattle.spv_annotate.proofs.laws.value_examples.Goals as goal

pub returns-clause-least : goal.returns-clause-least
unfolding raised
returns-clause-least c = refl

pub returns-clause-bits : goal.returns-clause-bits
unfolding hex_digits
returns-clause-bits c = refl

pub returns-clause-as_bits : goal.returns-clause-as_bits
unfolding hex_digits
returns-clause-as_bits c = refl
