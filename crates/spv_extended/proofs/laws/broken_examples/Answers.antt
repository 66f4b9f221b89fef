use Rattle.std.proofs.Common.{◌∷◌, [], refl}
use Rattle.spv_module.specs.Operand.{Id}
use Rattle.spv_extended.specs.declared.reach.Reach.TheVariants.{Extended}
use Rattle.spv_extended.specs.Broken.{miscalled}
use Rattle.spv_extended.specs.Example.{call}
use Rattle.spv_extended.specs.Facts.{facts_of}
use Rattle.spv_extended.proofs.Brokens.{of_call}
use Rattle.spv_extended.proofs.Missing.{not_at}
use Rattle.spv_extended.proofs.laws.broken_examples.Goals as goal

pub returns-clause-fewer : goal.returns-clause-fewer
unfolding facts_of
returns-clause-fewer c = miscalled 2 refl (record { inst = _; there = refl; missed = refl })

pub returns-clause-load : goal.returns-clause-load
unfolding facts_of
returns-clause-load c = λ r b. not_at _ 2 (call 1 171 (Id 7 ∷ Id 8 ∷ Id 4 ∷ [])) refl refl (of_call Extended _ r 2 b)

pub returns-clause-opencl : goal.returns-clause-opencl
unfolding facts_of
returns-clause-opencl c = λ minor. miscalled 2 refl (record { inst = _; there = refl; missed = refl })
