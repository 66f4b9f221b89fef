use Rattle.spv_views.proofs.lemmas.text_fault.Told.{lines_shown, no_whole_line}
use Rattle.spv_views.proofs.text_fault.laws.line_examples.Goals as goal

pub returns-clause-lines : goal.returns-clause-lines
returns-clause-lines c = lines_shown

pub returns-clause-not_line : goal.returns-clause-not_line
returns-clause-not_line c = no_whole_line
