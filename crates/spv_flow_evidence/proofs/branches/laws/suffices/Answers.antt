use Rattle.spv_flow_evidence.proofs.lemmas.branches.Rules.{suffices}
use Rattle.spv_flow_evidence.proofs.branches.laws.suffices.Goals as goal

pub returns : goal.returns
returns c = λ fork G is r n e h. suffices fork G is r n e h
