use Rattle.spv_lines.proofs.Showing.{text_back, shown_text}
use Rattle.spv_lines.proofs.laws.shown_reads_back.Goals as goal

pub returns-clause-shown : goal.returns-clause-shown
returns-clause-shown c = shown_text

pub returns-clause-read : goal.returns-clause-read
returns-clause-read c = text_back
