use Rattle.std.proofs.Common.{◌-◌, length}
use Rattle.spv_flow.specs.walks.inner.Code.{insts_of}
use Rattle.spv_flow.specs.walks.inner.Adds.{AddsBy}
use Rattle.spv_flow.specs.walks.inner.Leading.{IsLabelAt}
use Rattle.spv_flow.proofs.lemmas.walks.Adding.{UpTo}
use Rattle.spv_flow.proofs.walks.edges.add_labels.Given as goal

abbrev pub invariant-loop-n : goal.invariant-loop-n
invariant-loop-n l = AddsBy l.code (UpTo l.n (λ G j c. IsLabelAt G (insts_of l.code) l.blocks.starts.now l.at j c))
    l.fn.targets.items l.targets.items

abbrev pub decreases-loop-n : goal.decreases-loop-n
decreases-loop-n l = length l.operands - l.n
