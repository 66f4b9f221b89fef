use Rattle.spv_words.proofs.Replacing.{replaced, kept, again}
use Rattle.spv_words.proofs.laws.versions.Goals as goal

pub returns-clause-replaced : goal.returns-clause-replaced
returns-clause-replaced c = λ o minor rest h. replaced o minor rest h

pub returns-clause-kept : goal.returns-clause-kept
returns-clause-kept c = λ bytes other. kept bytes other

pub returns-clause-again : goal.returns-clause-again
returns-clause-again c = λ bytes. again bytes
