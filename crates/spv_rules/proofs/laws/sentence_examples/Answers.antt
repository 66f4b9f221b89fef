use Rattle.std.proofs.Common.{◌≡◌, codes, refl}
use Rattle.spv_rules.specs.Errors.{any_section}
use Rattle.spv_rules.specs.Table.{rows}
use Rattle.spv_rules.specs.declared.errors.AnyCode.TheVariants.{Verdict}
use Rattle.spv_rules.specs.declared.rules.Code.TheVariants.{Word}
use Rattle.spv_words.specs.declared.words.WordError.TheVariants.{W5}
use Rattle.spv_rules.proofs.laws.sentence_examples.Goals as goal

the_section : any_section (Verdict (Word W5)) ≡ codes "2.3; own"
unfolding rows
the_section = refl

pub returns-clause-line : goal.returns-clause-line
unfolding rows
returns-clause-line c = refl

pub returns-clause-section : goal.returns-clause-section
returns-clause-section c = the_section

pub returns-clause-not_first : goal.returns-clause-not_first
returns-clause-not_first c e = (let s = the_section in absurd cc)
