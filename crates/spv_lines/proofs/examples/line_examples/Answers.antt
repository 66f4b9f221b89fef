use Rattle.spv_lines.proofs.Worked.{load_shown, load_numbered, load_read, switch_shown}
use Rattle.spv_lines.proofs.examples.line_examples.Goals as goal

pub returns-clause-shown : goal.returns-clause-shown
returns-clause-shown c = load_shown

pub returns-clause-numbered : goal.returns-clause-numbered
returns-clause-numbered c = load_numbered

pub returns-clause-read : goal.returns-clause-read
returns-clause-read c = load_read

pub returns-clause-switch : goal.returns-clause-switch
returns-clause-switch c = switch_shown
