use Rattle.spv_pictures.proofs.Worked.{blocks_example, calls_example, entries_example, none_example, red_example}
use Rattle.spv_pictures.proofs.laws.picture_examples.Goals as goal

pub returns-clause-calls : goal.returns-clause-calls
returns-clause-calls c = calls_example

pub returns-clause-blocks : goal.returns-clause-blocks
returns-clause-blocks c = blocks_example

pub returns-clause-none : goal.returns-clause-none
returns-clause-none c = none_example

pub returns-clause-red : goal.returns-clause-red
returns-clause-red c = red_example

pub returns-clause-entry_lines : goal.returns-clause-entry_lines
returns-clause-entry_lines c = entries_example
