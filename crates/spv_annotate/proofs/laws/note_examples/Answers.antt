use Rattle.std.proofs.Common.{◌≡◌, ap, arith, length, refl}
use Rattle.std.specs.Fmt.{digits}
use Rattle.spv_extended.specs.Facts.{facts_of}
use Rattle.spv_annotate.specs.Notes.{cut_at, opencl_lines}
use Rattle.spv_annotate.proofs.laws.note_examples.Goals as goal

pub returns-clause-names : goal.returns-clause-names
unfolding digits facts_of
returns-clause-names c = refl

pub returns-clause-once : goal.returns-clause-once
unfolding digits facts_of
returns-clause-once c = refl

pub returns-clause-not_twice : goal.returns-clause-not_twice
unfolding digits facts_of
returns-clause-not_twice c = λ e. let l : 8 ≡ 16 = ap length e in omega (arith, l)

pub returns-clause-other_entry : goal.returns-clause-other_entry
unfolding digits facts_of
returns-clause-other_entry c = refl

pub returns-clause-long : goal.returns-clause-long
unfolding cut_at
returns-clause-long c = refl

pub returns-clause-call : goal.returns-clause-call
unfolding opencl_lines
returns-clause-call c = refl

pub returns-clause-more_marks : goal.returns-clause-more_marks
unfolding cut_at
returns-clause-more_marks c = refl
