use Rattle.spv_lines.proofs.Worked.{text_shown, text_read}
use Rattle.spv_lines.proofs.examples.text_examples.Goals as goal

pub returns-clause-shown : goal.returns-clause-shown
returns-clause-shown c = text_shown

pub returns-clause-read : goal.returns-clause-read
returns-clause-read c = text_read
