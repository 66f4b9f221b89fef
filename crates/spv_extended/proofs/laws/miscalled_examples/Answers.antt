use Rattle.std.proofs.Common.{[], ◌∷◌, refl}
use Rattle.spv_module.specs.Operand.{Id}
use Rattle.spv_extended.specs.Example.{call}
use Rattle.spv_extended.specs.Facts.{facts_of}
use Rattle.spv_extended.proofs.Missing.{not_at}
use Rattle.spv_extended.proofs.laws.miscalled_examples.Goals as goal

pub returns-clause-load : goal.returns-clause-load
unfolding facts_of
returns-clause-load c = not_at _ 2 (call 1 171 (Id 7 ∷ Id 8 ∷ Id 4 ∷ [])) refl refl

pub returns-clause-fewer : goal.returns-clause-fewer
unfolding facts_of
returns-clause-fewer c = record { inst = _; there = refl; missed = refl }

pub returns-clause-printf : goal.returns-clause-printf
unfolding facts_of
returns-clause-printf c = not_at _ 2 (call 1 184 (Id 7 ∷ Id 8 ∷ Id 9 ∷ [])) refl refl

pub returns-clause-no_format : goal.returns-clause-no_format
unfolding facts_of
returns-clause-no_format c = record { inst = _; there = refl; missed = refl }

pub returns-clause-no_number : goal.returns-clause-no_number
unfolding facts_of
returns-clause-no_number c = record { inst = _; there = refl; missed = refl }
