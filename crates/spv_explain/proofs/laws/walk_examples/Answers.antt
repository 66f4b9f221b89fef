use Rattle.std.proofs.Common.{refl}
use Rattle.spv_explain.specs.Stream.{IsWalk}
use Rattle.spv_explain.proofs.Worked.{no_walk}
use Rattle.spv_explain.proofs.laws.walk_examples.Goals as goal

pub returns-clause-valid : goal.returns-clause-valid
returns-clause-valid c = λ G reach bytes e j. IsWalk.valid j

pub returns-clause-not_valid : goal.returns-clause-not_valid
returns-clause-not_valid c = λ G reach bytes e j. no_walk G reach bytes e _ j refl
