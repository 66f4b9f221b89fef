use Rattle.spv_flow_evidence.proofs.lemmas.walks.Sufficing.{suffices}
use Rattle.spv_flow_evidence.proofs.walks.laws.suffices.Goals as goal

pub returns : goal.returns
returns c = λ fork G is r n e shown. suffices fork G is r n e shown
