-- Where there is evidence that a rule is broken, it is.
use Rattle.std.proofs.Common.{ℕ, List}
use Rattle.spv_table.specs.Table.{Table}
use Rattle.spv_module.specs.Operand.{PlainInst}
use Rattle.spv_module.specs.declared.fault.Rule.{Rule}
use Rattle.spv_flow.specs.declared.branches.fork.Fork.{Fork}
use Rattle.spv_flow.specs.branches.Broken.{Broken}
use Rattle.spv_evidence.specs.declared.evidence.Evidence.{Evidence}
use Rattle.spv_flow_evidence.specs.walks.Evidence.{IsEvidence}

pub suffices : (fork : Fork) (G : Table) (is : List PlainInst) (r : Rule) (n : ℕ) (e : Evidence)
    → IsEvidence G is r n e → Broken fork G is r n
suffices fork G is _ _ _ (IsEvidence.missing n d m at fewest) = Broken.missing n m
suffices fork G is _ _ _ (IsEvidence.pair_missing n d m at fewest) = Broken.pair_missing n m
