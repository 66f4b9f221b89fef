use Rattle.spv_lines.proofs.Worked.{volatile, numbered_one, both_named, both_numbered, wrong_order, wrong_part}
use Rattle.spv_lines.proofs.Worked.{shown_none}
use Rattle.spv_lines.proofs.examples.name_examples.Goals as goal

pub returns-clause-named : goal.returns-clause-named
returns-clause-named c = volatile

pub returns-clause-numbered : goal.returns-clause-numbered
returns-clause-numbered c = numbered_one

pub returns-clause-both : goal.returns-clause-both
returns-clause-both c = both_named

pub returns-clause-whole : goal.returns-clause-whole
returns-clause-whole c = both_numbered

pub returns-clause-order : goal.returns-clause-order
returns-clause-order c = wrong_order

pub returns-clause-part : goal.returns-clause-part
returns-clause-part c = wrong_part

pub returns-clause-unnamed : goal.returns-clause-unnamed
returns-clause-unnamed c = shown_none
