use Rattle.spv_standard_evidence.proofs.Faced.{interfaces_suffice}
use Rattle.spv_standard_evidence.proofs.Operated.{operands_suffice}
use Rattle.spv_standard_evidence.proofs.Limited.{limits_suffice}
use Rattle.spv_standard_evidence.proofs.Ordered.{order_suffices}
use Rattle.spv_standard_evidence.proofs.Sufficing.{declarations_suffice}
use Rattle.spv_standard_evidence.proofs.Versioned.{versions_suffice}
use Rattle.spv_standard_evidence.proofs.laws.suffices.Goals as goal

pub returns-clause-order : goal.returns-clause-order
returns-clause-order c = λ G is r n e h. order_suffices G is r n e h

pub returns-clause-interfaces : goal.returns-clause-interfaces
returns-clause-interfaces c = λ G minor is r n e h. interfaces_suffice G minor is r n e h

pub returns-clause-declarations : goal.returns-clause-declarations
returns-clause-declarations c = λ G is r n e h. declarations_suffice G is r n e h

pub returns-clause-operands : goal.returns-clause-operands
returns-clause-operands c = λ G is r n e h. operands_suffice G is r n e h

pub returns-clause-versions : goal.returns-clause-versions
returns-clause-versions c = λ G minor is r n e h. versions_suffice G minor is r n e h

pub returns-clause-limits : goal.returns-clause-limits
returns-clause-limits c = λ is r n e h. limits_suffice is r n e h
