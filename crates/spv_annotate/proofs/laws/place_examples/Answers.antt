use Rattle.std.proofs.Common.{refl}
use Rattle.spv_layout.specs.Rows.{rows}
use Rattle.spv_annotate.proofs.laws.place_examples.Goals as goal

pub returns-clause-section : goal.returns-clause-section
unfolding rows
returns-clause-section c = refl

pub returns-clause-same_section : goal.returns-clause-same_section
unfolding rows
returns-clause-same_section c = refl
