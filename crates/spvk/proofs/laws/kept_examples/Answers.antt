use Rattle.std.proofs.Common.{refl}
use Rattle.spvk.specs.Rules.{PutsIfAny}
use Rattle.spvk.specs.Make.{memory}
use Rattle.spvk.proofs.laws.kept_examples.Goals as goal

pub returns-clause-memory : goal.returns-clause-memory
returns-clause-memory c = λ G r bytes old. memory

pub returns-clause-unsaid : goal.returns-clause-unsaid
returns-clause-unsaid c = λ old. PutsIfAny.missing refl refl
