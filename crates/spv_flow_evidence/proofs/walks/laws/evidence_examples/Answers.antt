use Rattle.spv_flow_evidence.proofs.lemmas.walks.Paired.{pair_shown, no_parent}
use Rattle.spv_flow_evidence.proofs.lemmas.walks.Worked.{walk_shown, no_walk}
use Rattle.spv_flow_evidence.proofs.walks.laws.evidence_examples.Goals as goal

pub returns-clause-walk : goal.returns-clause-walk
returns-clause-walk c = walk_shown

pub returns-clause-no_walk : goal.returns-clause-no_walk
returns-clause-no_walk c = no_walk

pub returns-clause-pair : goal.returns-clause-pair
returns-clause-pair c = pair_shown

pub returns-clause-no_end : goal.returns-clause-no_end
returns-clause-no_end c = no_parent
