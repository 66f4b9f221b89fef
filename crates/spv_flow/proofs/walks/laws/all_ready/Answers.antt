use Rattle.spv_flow.proofs.lemmas.walks.Ready.{ready, unbroken}
use Rattle.spv_flow.proofs.walks.laws.all_ready.Goals as goal

pub returns : goal.returns
returns c = λ fork G is. (ready fork G is, unbroken fork G is)
