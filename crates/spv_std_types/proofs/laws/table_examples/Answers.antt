use Rattle.std.proofs.Common.{refl}
use Rattle.spv_std_types.specs.Table.{lines}
use Rattle.spv_std_types.proofs.laws.table_examples.Goals as goal

pub returns-clause-product : goal.returns-clause-product
unfolding lines
returns-clause-product c = refl

pub returns-clause-absent : goal.returns-clause-absent
unfolding lines
returns-clause-absent c = refl
