use Rattle.std.proofs.Common.{refl}
use Rattle.spv_views.specs.View.{IsTold}
use Rattle.spv_views.proofs.Viewings.{untold}
use Rattle.spv_views.proofs.laws.finding_examples.Goals as goal

pub returns-clause-calls : goal.returns-clause-calls
returns-clause-calls c = λ G reach bytes. IsTold.calls

pub returns-clause-unexplained : goal.returns-clause-unexplained
returns-clause-unexplained c = λ G reach bytes how function finding none.
    untold G reach bytes how function finding _ refl none
