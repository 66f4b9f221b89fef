use Rattle.spv_flow.specs.calls.Calls.{Calls}
use Rattle.spv_flow.proofs.lemmas.calls.Chains.{joined}
use Rattle.spv_flow.proofs.calls.laws.chains_join.Goals as goal

pub returns : goal.returns
returns c = λ is f g h a b. joined (Calls is) f g h a b
