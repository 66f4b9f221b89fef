use Rattle.std.proofs.Common.{refl, lit≤, arith}
use Rattle.spv_type_forms.proofs.Lacking.{members_nullable, pipes_lack}
use Rattle.spv_type_rules.proofs.laws.object_constant_examples.Goals as goal

pub returns-clause-storage : goal.returns-clause-storage
returns-clause-storage c = refl

pub returns-clause-sampler : goal.returns-clause-sampler
returns-clause-sampler c = (refl, lit≤ tt)

pub returns-clause-no_word : goal.returns-clause-no_word
returns-clause-no_word c = λ s. let l = s.1 in absurd (omega (arith, l))

pub returns-clause-null : goal.returns-clause-null
returns-clause-null c = members_nullable

pub returns-clause-no_null : goal.returns-clause-no_null
returns-clause-no_null c = λ n. n.1 pipes_lack

pub returns-clause-part : goal.returns-clause-part
returns-clause-part c = refl
