use Rattle.std.proofs.Common.{[], refl}
use Rattle.std.specs.Int.Count.{ones}
use Rattle.spv_grammar.proofs.laws.table_examples.Goals as goal

pub returns-clause-two_bits : goal.returns-clause-two_bits
unfolding ones
returns-clause-two_bits c = refl

pub returns-clause-one_bit : goal.returns-clause-one_bit
unfolding ones
returns-clause-one_bit c = refl

pub returns-clause-gives : goal.returns-clause-gives
returns-clause-gives c = record { file = record { instructions = []; kinds = [] }; is_file = refl; unbroken = refl; table = record { entries = refl; kinds = refl } }
