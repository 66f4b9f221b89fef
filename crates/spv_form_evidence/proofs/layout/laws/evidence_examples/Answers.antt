use Rattle.spv_form_evidence.proofs.lemmas.layout.Worked.{load_shown_not, matrix_shows, matrix_unknown, merged_not_one}
use Rattle.spv_form_evidence.proofs.lemmas.layout.Worked.{merged_shows, unended_shows, word_known, word_shows}
use Rattle.spv_form_evidence.proofs.layout.laws.evidence_examples.Goals as goal

pub returns-clause-misfit : goal.returns-clause-misfit
returns-clause-misfit c = word_shows

pub returns-clause-not_unknown : goal.returns-clause-not_unknown
returns-clause-not_unknown c = word_known

pub returns-clause-unknown : goal.returns-clause-unknown
returns-clause-unknown c = matrix_shows

pub returns-clause-not_known : goal.returns-clause-not_known
returns-clause-not_known c = matrix_unknown

pub returns-clause-fits : goal.returns-clause-fits
returns-clause-fits c = load_shown_not

pub returns-clause-misplaced : goal.returns-clause-misplaced
returns-clause-misplaced c = merged_shows

pub returns-clause-one_missing : goal.returns-clause-one_missing
returns-clause-one_missing c = merged_not_one

pub returns-clause-unfinished : goal.returns-clause-unfinished
returns-clause-unfinished c = unended_shows
