use Rattle.spv_form_evidence.proofs.lemmas.layout.Worked.{label_follows, load_row, no_matrix_row, no_read_row, no_return_follows}
use Rattle.spv_form_evidence.proofs.lemmas.layout.Worked.{read_row}
use Rattle.spv_form_evidence.proofs.lemmas.layout.Worked.{unended_no_end, unended_not_three, unended_to_come}
use Rattle.spv_form_evidence.proofs.layout.laws.place_examples.Goals as goal

pub returns-clause-row : goal.returns-clause-row
returns-clause-row c = load_row

pub returns-clause-no_row : goal.returns-clause-no_row
returns-clause-no_row c = no_matrix_row

pub returns-clause-label : goal.returns-clause-label
returns-clause-label c = label_follows

pub returns-clause-no_return : goal.returns-clause-no_return
returns-clause-no_return c = no_return_follows

pub returns-clause-all : goal.returns-clause-all
returns-clause-all c = unended_to_come

pub returns-clause-one_missing : goal.returns-clause-one_missing
returns-clause-one_missing c = unended_not_three

pub returns-clause-no_end : goal.returns-clause-no_end
returns-clause-no_end c = unended_no_end

pub returns-clause-read : goal.returns-clause-read
returns-clause-read c = read_row

pub returns-clause-not_own : goal.returns-clause-not_own
returns-clause-not_own c = no_read_row
